-- Legal lines: UTF-8, with neither LF nor a control byte. The logical lines of a legal file are legal,
-- and none of them ends in an odd run of backslashes; legal lines written out are a legal file.
use mathlib.Core.Path.{◌≡◌, refl, sym, ◌∙◌, subst}
use Prim.Native.Nat.{ℕ, suc, ◌+◌}
use mathlib.Core.Bool.{true, not, ◌&&◌}
use mathlib.Core.List.{List, [], ◌∷◌, ◌++◌, append_assoc}
use lib.ListN.{length}
use lib.Dec.{leb}
use Rattle.lines.specs.Laws.{All, Legal, Settled, line_byte, no_lf, plain}
use Rattle.lines.specs.Bytes.{Bytes, is_lf, all}
use Rattle.lines.specs.Utf8.{utf8, well}
use Rattle.lines.specs.Lines.{Line, physical, comment, continued, closing_run, odd, spaced, joined, logical, written}
use Rattle.lines.proofs.Bools.{by_cases, and_left, and_right, both, all_append, all_imp}
use Rattle.lines.proofs.Utf8Laws.{utf8_split, utf8_append, utf8_ascii}
use Rattle.lines.proofs.Runs.{Spaced, is_spaced, continued-after}
use Rattle.lines.proofs.Joining.{waiting, joined_nil, joined-comment, joined_line, joined_open}
use Rattle.lines.proofs.Physicals.{physical_cons, physical_last, Cut, nothing, last, more, cut}

pub legal_nil : Legal []
legal_nil = record { characters = unfold utf8 well in refl; bytes = unfold all in refl }

-- ---- parted and joined at a byte below 80

module _ (a : Bytes) (c : ℕ) (b : Bytes) (low : leb c 0x7F ≡ true) (ok : line_byte c ≡ true) where
  bytes_at : all line_byte (a ++ c ∷ b) ≡ (all line_byte a && all line_byte b)
  unfolding all
  bytes_at = all_append line_byte a (c ∷ b) ∙ rw ok

  pub legal_before : Legal (a ++ c ∷ b) → Legal a
  legal_before h = record {
    characters = and_left (utf8 a) (utf8 b) (sym (utf8_split a c b low) ∙ h.characters);
    bytes = and_left (all line_byte a) (all line_byte b) (sym bytes_at ∙ h.bytes);
  }

  pub legal_after : Legal (a ++ c ∷ b) → Legal b
  legal_after h = record {
    characters = and_right (utf8 a) (utf8 b) (sym (utf8_split a c b low) ∙ h.characters);
    bytes = and_right (all line_byte a) (all line_byte b) (sym bytes_at ∙ h.bytes);
  }

  pub legal_around : Legal a → Legal b → Legal (a ++ c ∷ b)
  legal_around h k = record {
    characters = utf8_split a c b low ∙ both (utf8 a) (utf8 b) h.characters k.characters;
    bytes = bytes_at ∙ both (all line_byte a) (all line_byte b) h.bytes k.bytes;
  }

pub legal_append : (a b : Bytes) → Legal a → Legal b → Legal (a ++ b)
legal_append a b h k = record {
  characters = utf8_append a b h.characters ∙ k.characters;
  bytes = all_append line_byte a b ∙ both (all line_byte a) (all line_byte b) h.bytes k.bytes;
}

pub legal_one : (l : Bytes) → Legal l → no_lf l ≡ true
unfolding no_lf
legal_one l h = all_imp line_byte (λ b. not (is_lf b)) (λ b k. and_right (plain b) (not (is_lf b)) k) l h.bytes

-- bytes below 80 that may stand in a line
pub legal_ascii : (l : Bytes) → all (λ b. leb b 0x7F) l ≡ true → all line_byte l ≡ true → Legal l
legal_ascii l h k = record { characters = utf8_ascii l h; bytes = k }

-- ---- the physical lines of a legal file

abbrev pub LegalLine : Line → Type 0
LegalLine l = Legal l.bytes

line_bytes : (l : Bytes) → no_lf l ≡ true → all plain l ≡ true → all line_byte l ≡ true
unfolding no_lf all
line_bytes [] h k = refl
line_bytes (b ∷ bs) h k =
    both (line_byte b) (all line_byte bs)
    (both (plain b) (not (is_lf b)) (and_left (plain b) (all plain bs) k) (and_left (not (is_lf b)) (no_lf bs) h))
    (line_bytes bs (and_right (not (is_lf b)) (no_lf bs) h) (and_right (plain b) (all plain bs) k))

legal_cut : (n a : ℕ) (f : Bytes) → Cut f → utf8 f ≡ true → all plain f ≡ true → All LegalLine (physical n a f)
unfolding physical all
legal_cut n a f nothing u p = tt
legal_cut n a f (last b bs h) u p =
    subst (All LegalLine) (sym (physical_last b bs n a h)) (record { characters = u; bytes = line_bytes (b ∷ bs) h p }, tt)
legal_cut n a f (more l rest h k) u p =
    let v : (utf8 l && utf8 rest) ≡ true = sym (utf8_split l 0x0A rest refl) ∙ u in
    let q : (all plain l && all plain (0x0A ∷ rest)) ≡ true = sym (all_append plain l (0x0A ∷ rest)) ∙ p in
    subst (All LegalLine) (sym (physical_cons l rest n a h)) (
      record { characters = and_left (utf8 l) (utf8 rest) v; bytes = line_bytes l h (and_left (all plain l) (all plain (0x0A ∷ rest)) q) },
      legal_cut (suc n) (suc (a + length l)) rest k (and_right (utf8 l) (utf8 rest) v) (and_right (all plain l) (all plain (0x0A ∷ rest)) q),
    )

-- ---- its logical lines

abbrev pub SettledLine : Line → Type 0
SettledLine l = Settled l.bytes

module _ (l : Bytes) (h : Legal l) (s : Spaced l) where
  spaced_legal : Legal (spaced l)
  spaced_legal = rw s.now_is (legal_around s.front 0x20 [] refl refl (legal_before s.front 0x5C [] refl refl (rw s.was at h)) legal_nil)

  spaced_settled : Settled (spaced l)
  spaced_settled = record { legal = spaced_legal; ends = rw s.now_is (continued-after s.front 0x20 [] refl ∙ unfold continued closing_run odd in refl) }

  spaced_then : (b : Bytes) → Settled b → Settled (spaced l ++ b)
  spaced_then b k = record {
    legal = legal_append (spaced l) b spaced_legal k.legal;
    ends = rw (s.now_is, append_assoc s.front (0x20 ∷ []) b) (continued-after s.front 0x20 b refl ∙ k.ends);
  }

waiting_settled : (l : Line) (ls : List Line) → LegalLine l → continued l.bytes ≡ true → All SettledLine ls
    → All SettledLine (waiting l.number (spaced l.bytes) ls)
unfolding waiting
waiting_settled l [] h e k = (spaced_settled l.bytes h (is_spaced l.bytes e), tt)
waiting_settled l (m ∷ ls) h e k = (spaced_then l.bytes h (is_spaced l.bytes e) m.bytes k.0, k.1)

pub joined_settled : (ls : List Line) → All LegalLine ls → All SettledLine (joined ls)
joined_settled [] h = subst (All SettledLine) (sym joined_nil) tt
joined_settled (l ∷ ls) h =
    let ih : All SettledLine (joined ls) = joined_settled ls h.1 in
    by_cases (comment l.bytes)
    (λ c. subst (All SettledLine) (sym (joined-comment l ls c)) ih)
    (λ c.
    by_cases (continued l.bytes)
    (λ e. subst (All SettledLine) (sym (joined_open l ls c e)) (waiting_settled l (joined ls) h.0 e ih))
    (λ e. subst (All SettledLine) (sym (joined_line l ls c e)) (record { legal = h.0; ends = e }, ih)))

pub logical_settled : (f : Bytes) → utf8 f ≡ true → all plain f ≡ true → All SettledLine (logical f)
unfolding logical
logical_settled f u p = joined_settled (physical 1 0 f) (legal_cut 1 0 f (cut f) u p)

-- ---- written out

pub written_legal : (ls : List Bytes) → All Legal ls → (utf8 (written ls) ≡ true) × (all plain (written ls) ≡ true)
unfolding written utf8 well all
written_legal [] h = (refl, refl)
written_legal (l ∷ ls) h =
    let r : (utf8 (written ls) ≡ true) × (all plain (written ls) ≡ true) = written_legal ls h.1 in (
      utf8_split l 0x0A (written ls) refl ∙ both (utf8 l) (utf8 (written ls)) h.0.characters r.0,
      all_append plain l (0x0A ∷ written ls)
          ∙ both (all plain l) (all plain (written ls)) (all_imp line_byte plain (λ b k. and_left (plain b) (not (is_lf b)) k) l h.0.bytes) r.1,
    )
