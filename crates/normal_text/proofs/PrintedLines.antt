-- The lines of the normal text: read back, each is a header or an entry of what it was written from, and none of them is a
-- comment, continued or illegal.
use mathlib.Core.Path.{◌≡◌, refl, sym, ap, ◌∙◌}
use Prim.Native.Nat.{ℕ, ◌≤◌}
use mathlib.Core.Bool.{true, false}
use mathlib.Core.List.{[], ◌∷◌, ◌++◌, append-nil, append_assoc}
use lib.ListN.{length}
use Rattle.lines.specs.Bytes.{Bytes, blank, key_byte, header_byte, all}
use Rattle.lines.specs.Trim.{trim_start, trim_end, trimmed}
use Rattle.lines.specs.Lines.{comment, continued, closing_run, odd}
use Rattle.lines.specs.Laws.{Legal, Settled, Whole}
use Rattle.lines.proofs.Bools.{by_cases, and_left, neq_byte, impossible}
use Rattle.lines.proofs.Trimming.{trim_start_nonblank, trim_end_space, trim_end_front, trim_end_last, trim_end_cons, keep_nonblank}
use Rattle.lines.proofs.Runs.{continued-after}
use Rattle.lines.proofs.Legal.{legal_nil, legal_around, legal_one}
use Rattle.lines.proofs.Laws.{not_a_comment}
use Rattle.table.specs.LineKinds.{header, entry, one_or_more, kind}
use Rattle.table.proofs.Laws.{brackets_are_a_header, parts_are_an_entry}
use Rattle.normal_text.specs.Sections.{Pair}
use Rattle.normal_text.specs.NormalText.{header_line, padded, entry_line}
use Rattle.normal_text.proofs.Graphic.{legal_name, legal_key}

-- a name whose line can be read back
pub record NameFits (x : Bytes) : Type 0 where
  pub legal : one_or_more header_byte x ≡ true
  pub short : length (header_line x) ≤ 4096

-- a pair whose line can be read back
pub record PairFits (p : Pair) : Type 0 where
  pub key : one_or_more key_byte p.key ≡ true
  pub starts : trim_start p.value ≡ p.value
  pub ends : trim_end p.value ≡ p.value
  pub legal : Legal p.value
  pub short : length (entry_line p) ≤ 4096

-- a line that is legal and stands for itself
pub record Stands (l : Bytes) : Type 0 where
  pub settled : Settled l
  pub kept : comment l ≡ false

pub stands_legal : (l : Bytes) → Stands l → Legal l
stands_legal l s = s.settled.legal

pub stands_whole : (l : Bytes) → Stands l → Whole l
stands_whole l s = record { one = legal_one l s.settled.legal; kept = s.kept; ends = s.settled.ends }

-- ---- a header

pub header_trimmed : (x : Bytes) → trimmed (header_line x) ≡ header_line x
unfolding trimmed header_line
header_trimmed x = rw (trim_start_nonblank 0x5B (x ++ 0x5D ∷ []) refl) (trim_end_last (0x5B ∷ x) 0x5D refl)

pub header_kind_lem : (x : Bytes) → NameFits x → kind (trimmed (header_line x)) ≡ header x
header_kind_lem x f = rw (header_trimmed x) (unfold header_line in brackets_are_a_header x f.legal)

-- ] closes no run
bracket_ends : (x : Bytes) → continued (header_line x) ≡ false
unfolding header_line
bracket_ends x = continued-after (0x5B ∷ x) 0x5D [] refl ∙ unfold continued closing_run odd in refl

pub header_stands : (x : Bytes) → NameFits x → Stands (header_line x)
unfolding header_line
header_stands x f = record {
  settled = record {
    legal = legal_around [] 0x5B (x ++ 0x5D ∷ []) refl refl legal_nil (legal_around x 0x5D [] refl refl (legal_name x f.legal) legal_nil);
    ends = bracket_ends x;
  };
  kept = not_a_comment 0x5B (x ++ 0x5D ∷ []) refl refl refl;
}

-- ---- a value and its space

padded-trimmed : (v : Bytes) → trim_end v ≡ v → trim_end (padded v) ≡ v
unfolding padded
padded-trimmed v h = by_cases (continued v) (λ e. rw e (trim_end_space v ∙ h)) (λ e. rw e h)

padded_legal : (v : Bytes) → Legal v → Legal (padded v)
unfolding padded
padded_legal v h = by_cases (continued v) (λ e. rw e (legal_around v 0x20 [] refl refl h legal_nil)) (λ e. rw e h)

padded-ends : (v : Bytes) → continued (padded v) ≡ false
unfolding padded
padded-ends v =
    by_cases (continued v)
    (λ e. rw e (continued-after v 0x20 [] refl ∙ unfold continued closing_run odd in refl))
    (λ e. rw e e)

-- ---- an entry

-- = is no blank
equals_trimmed : (v : Bytes) → trim_end v ≡ v → trim_end (0x3D ∷ padded v) ≡ 0x3D ∷ v
equals_trimmed v h = trim_end_cons 0x3D (padded v) ∙ rw (padded-trimmed v h) (keep_nonblank 0x3D v refl)

-- a line that starts with a key has no blank there, and is no comment
key_nonblank : (b : ℕ) → key_byte b ≡ true → blank b ≡ false
key_nonblank b h = rw (neq_byte key_byte 0x20 b refl h, neq_byte key_byte 0x09 b refl h)

key_first : (k rest : Bytes) → one_or_more key_byte k ≡ true → (trim_start (k ++ rest) ≡ k ++ rest) × (comment (k ++ rest) ≡ false)
unfolding one_or_more all
key_first [] rest h = impossible h
key_first (b ∷ k) rest h =
    let y : key_byte b ≡ true = and_left (key_byte b) (all key_byte k) h in (
      trim_start_nonblank b (k ++ rest) (key_nonblank b y),
      not_a_comment b (k ++ rest) (key_nonblank b y) (neq_byte key_byte 0x23 b refl y) (neq_byte key_byte 0x3B b refl y),
    )

module _ (p : Pair) (f : PairFits p) where
  entry_first : (trim_start (entry_line p) ≡ entry_line p) × (comment (entry_line p) ≡ false)
  unfolding entry_line
  entry_first = key_first p.key (0x3D ∷ padded p.value) f.key

  -- the space goes
  entry-trimmed : trimmed (entry_line p) ≡ p.key ++ 0x3D ∷ p.value
  unfolding trimmed entry_line
  entry-trimmed =
      let e : trim_end (0x3D ∷ padded p.value) ≡ 0x3D ∷ p.value = equals_trimmed p.value f.ends in
      ap trim_end entry_first.0 ∙ trim_end_front p.key (0x3D ∷ padded p.value) 0x3D p.value e
      ∙ ap (λ (r : Bytes). p.key ++ r) e

  pub entry-kind : kind (trimmed (entry_line p)) ≡ entry p.key p.value
  unfolding all
  entry-kind =
      rw entry-trimmed
      (parts_are_an_entry (p.key ++ 0x3D ∷ p.value) p.key p.value (record {
        front = [];
        back = [];
        line = ap (λ (a : Bytes). a ++ 0x3D ∷ p.value) (sym (append-nil p.key)) ∙ sym (append_assoc (p.key ++ []) (0x3D ∷ []) p.value);
        front_blank = refl;
        back_blank = refl;
        key = f.key;
        value = f.starts;
      }))

  pub entry_stands : Stands (entry_line p)
  unfolding entry_line
  entry_stands = record {
    settled = record {
      legal = legal_around p.key 0x3D (padded p.value) refl refl (legal_key p.key f.key) (padded_legal p.value f.legal);
      ends = continued-after p.key 0x3D (padded p.value) refl ∙ padded-ends p.value;
    };
    kept = entry_first.1;
  }
