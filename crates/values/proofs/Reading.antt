-- A text that is read as a span spells it: its tokens are laid out with blanks before them and behind each, and two
-- tokens that make a part spell it.
use mathlib.Core.Path.{◌≡◌, refl, sym, ap, subst, ◌∙◌}
use Prim.Native.Nat.{ℕ, ◌<◌}
use native.Mathlib.Omega.{arith}
use mathlib.Core.Bool.{true, false}
use mathlib.Core.Option.{Option, none, some}
use mathlib.Core.List.{List, [], ◌∷◌, ◌++◌, append-nil, append_assoc}
use lib.ListN.{length}
use Rattle.lines.specs.Bytes.{Bytes, blank, digit, all}
use Rattle.lines.specs.Trim.{trim_end, trimmed}
use Rattle.lines.specs.Laws.{All}
use Rattle.lines.proofs.Bools.{by_cases, clash, impossible}
use Rattle.lines.proofs.Trimming.{trim_start_nil, trim_end_nil, trim_start_blanks, trimmed_both}
use Rattle.values.specs.Spans.{second, numeral, decimal, units, scale_in, runs, tokens, Part, counted, part_of, with_part, parts_of, span_parts}
use Rattle.values.specs.Laws.{Spelling, SoundPart, all_spelt, all_meant, meant, Seconds, Spells, as_seconds, as_parts}
use Rattle.values.proofs.Numbers.{numeral_digits}
use Rattle.values.proofs.Verdict.{fault_kept, some_parts}
use Rattle.values.proofs.Blanks.{tokens-trimmed}
use Rattle.values.proofs.Gaps.{Laid, end, token, Layout, layout}
use Rattle.values.proofs.Forms.{digits_token}

-- ---- parts

record Spelt (t : Bytes) (ps : List Part) : Type 0 where
  list : List Spelling
  text : t ≡ all_spelt list
  sound : All SoundPart list
  parts : ps ≡ all_meant list

-- what a text spells where it is read
abbrev Reads : Bytes → Option (List Part) → Type 0
Reads t none = Unit {0}
Reads t (some ps) = Spelt t ps

-- a token has bytes
token_some : (w : Bytes) → all blank w ≡ false → 0 < length w
unfolding all
token_some [] h = impossible (sym h)
token_some (b ∷ w) h = omega arith

more : (n gap u behind t : Bytes) → 0 < length n → all digit n ≡ true → all blank gap ≡ true → all blank behind ≡ true
    → (s : Option ℕ) → scale_in units u ≡ s → (o : Option (List Part)) → Reads t o
    → Reads (n ++ (gap ++ (u ++ (behind ++ t)))) (with_part (counted (decimal n) s) o)
more n gap u behind t l d g b none e o r = tt
more n gap u behind t l d g b (some s) e none r =
    subst (Reads (n ++ (gap ++ (u ++ (behind ++ t))))) (sym (fault_kept (record { number = decimal n; scale = s }))) tt
more n gap u behind t l d g b (some s) e (some ps) r =
    let p : Spelling = record { digits = n; gap = gap; name = u; scale = s; behind = behind } in
    record {
      list = p ∷ r.list;
      text = rw r.text (simp append_assoc);
      sound = (record { some_digit = l; all_digits = d; gap_blank = g; unit = e; behind_blank = b }, r.sound);
      parts = ap (λ (qs : List Part). meant p ∷ qs) r.parts;
    }

reads : {ws : List Bytes} {t : Bytes} → Laid ws t → Reads t (parts_of ws)
unfolding parts_of part_of
reads end = record { list = []; text = refl; sound = tt; parts = refl }
reads (token n gap x g end) = tt
reads (token n gap x g (token u behind {ws} {t} y b l)) =
    let r = reads l in
    by_cases (numeral n)
    (λ d. rw d (more n gap u behind t (token_some n x) (numeral_digits n d) g b (scale_in units u) refl (parts_of ws) r))
    (λ d. rw d tt)

-- a text that is not all blanks
some_part : (a : Bytes) (ps : List Spelling) (b : ℕ) (bs : Bytes) → all blank a ≡ true → trimmed (a ++ all_spelt ps) ≡ b ∷ bs
    → 0 < length ps
some_part a [] b bs h e =
    let z : trimmed (a ++ []) ≡ [] = trimmed_both (a ++ []) ∙ ap trim_end (trim_start_blanks a [] h ∙ trim_start_nil) ∙ trim_end_nil in
    clash cc
some_part a (p ∷ ps) b bs h e = omega arith

-- ---- digits alone

alone : (t w : Bytes) (ps : List Part) → 0 < length w → all digit w ≡ true → ps ≡ record { number = decimal w; scale = second } ∷ []
    → Layout (w ∷ []) t → Seconds t ps
alone t w ps n d e l = go l.others l.text l.laid
  where
    go : (s : Bytes) → t ≡ l.before ++ s → Laid (w ∷ []) s → Seconds t ps
    go s x (token v gap y g end) =
        record {
          before = l.before;
          digits = w;
          behind = gap;
          text = x ∙ simp (append_assoc, append-nil);
          before_blank = l.before_blank;
          some_digit = n;
          all_digits = d;
          behind_blank = g;
          part = e;
        }

-- ---- both

pub read_spells : (t : Bytes) (ps : List Part) → span_parts (trimmed t) ≡ some ps → Spells t ps
unfolding span_parts
read_spells t ps h = go (trimmed t) refl h
  where
    go : (s : Bytes) → trimmed t ≡ s → span_parts s ≡ some ps → Spells t ps
    go [] x e = clash cc
    go (b ∷ bs) x e =
        let w : tokens (runs t) ≡ tokens (runs (b ∷ bs)) = sym (tokens-trimmed t) ∙ ap (λ (s : Bytes). tokens (runs s)) x in
        let l = layout t in
        by_cases (all digit (b ∷ bs))
        (λ d. let p : some (record { number = decimal (b ∷ bs); scale = second } ∷ []) ≡ some ps = rw d at e in
        as_seconds (alone t (b ∷ bs) ps (omega arith) d (cc) (rw (w ∙ digits_token (b ∷ bs) (omega arith) d) at l)))
        (λ d. let s : Spelt l.others ps = rw (w, some_parts (tokens (runs (b ∷ bs))) ps (rw d at e)) at (reads l.laid) in
        let y : t ≡ l.before ++ all_spelt s.list = l.text ∙ ap (λ (r : Bytes). l.before ++ r) s.text in
        as_parts (record {
          before = l.before;
          list = s.list;
          text = y;
          before_blank = l.before_blank;
          some_part = some_part l.before s.list b bs l.before_blank (sym (ap trimmed y) ∙ x);
          sound = s.sound;
          parts = s.parts;
        }))
