-- What trimming leaves of a line: it is legal where the line is, and its closing run is odd only where the line had a blank
-- behind it. A trimmed line has blanks on both sides, and cutting at a blank keeps both facts.
use mathlib.Core.Path.{◌≡◌, refl, sym, ap, ◌∙◌}
use Prim.Native.Nat.{ℕ, ◌<◌}
use native.Mathlib.Omega.{arith}
use mathlib.Core.Bool.{true, false}
use mathlib.Core.List.{[], ◌∷◌, ◌++◌, append-nil}
use lib.ListN.{length, length-append}
use lib.Dec.{leb, eqb}
use borrow.Author.Tests.{eqb-true}
use Rattle.lines.specs.Bytes.{Bytes, blank, all}
use Rattle.lines.specs.Trim.{trim_start, trimmed}
use Rattle.lines.specs.Lines.{continued}
use Rattle.lines.specs.Laws.{Legal, line_byte}
use Rattle.lines.proofs.Bools.{or_cases, and_left, and_right, neq_byte, impossible}
use Rattle.lines.proofs.Runs.{continued-after}
use Rattle.lines.proofs.Legal.{legal_before, legal_after}
use Rattle.table.proofs.Parts.{start_blanks, end_blanks}

-- ---- blanks

blank_ascii : (b : ℕ) → blank b ≡ true → leb b 0x7F ≡ true
blank_ascii b h = or_cases (eqb b 0x20) (eqb b 0x09) h (λ e. rw (eqb-true b 0x20 e)) (λ e. rw (eqb-true b 0x09 e))

blank-line_byte : (b : ℕ) → blank b ≡ true → line_byte b ≡ true
blank-line_byte b h = or_cases (eqb b 0x20) (eqb b 0x09) h (λ e. rw (eqb-true b 0x20 e)) (λ e. rw (eqb-true b 0x09 e))

-- what stands behind blanks
pub legal_behind : (a b : Bytes) → all blank a ≡ true → Legal (a ++ b) → Legal b
unfolding all
legal_behind [] b h l = l
legal_behind (x ∷ a) b h l =
    let y : blank x ≡ true = and_left (blank x) (all blank a) h in
    legal_behind a b (and_right (blank x) (all blank a) h) (legal_after [] x (a ++ b) (blank_ascii x y) (blank-line_byte x y) l)

-- what stands before them
legal_front : (a b : Bytes) → all blank b ≡ true → Legal (a ++ b) → Legal a
unfolding all
legal_front a [] h l = rw append-nil at l
legal_front a (x ∷ b) h l =
    let y : blank x ≡ true = and_left (blank x) (all blank b) h in
    legal_before a x b (blank_ascii x y) (blank-line_byte x y) l

-- blanks in front do not count in a closing run
pub continued-behind : (a b : Bytes) → all blank a ≡ true → continued (a ++ b) ≡ continued b
unfolding all
continued-behind [] b h = refl
continued-behind (x ∷ a) b h =
    continued-after [] x (a ++ b) (neq_byte blank 0x5C x refl (and_left (blank x) (all blank a) h))
    ∙ continued-behind a b (and_right (blank x) (all blank a) h)

-- ---- a trimmed line

-- blanks, what is left of a line, and blanks
pub record Margins (l : Bytes) : Type 0 where
  pub front : Bytes
  pub back : Bytes
  pub line : l ≡ front ++ (trimmed l ++ back)
  pub front_blank : all blank front ≡ true
  pub back_blank : all blank back ≡ true

margins : (l : Bytes) → Margins l
unfolding trimmed
margins l =
    let a = start_blanks l in
    let b = end_blanks (trim_start l) in
    record {
      front = a.0;
      back = b.0;
      line = a.1 ∙ ap (λ (r : Bytes). a.0 ++ r) b.1;
      front_blank = a.2;
      back_blank = b.2;
    }

pub legal_trimmed : (l : Bytes) → Legal l → Legal (trimmed l)
legal_trimmed l h =
    let m = margins l in
    legal_front (trimmed l) m.back m.back_blank
    (legal_behind m.front (trimmed l ++ m.back) m.front_blank (rw m.line at h))

-- an odd run that closes what is left, but not the line, had a blank behind it
pub trimmed_shorter : (l : Bytes) → continued l ≡ false → continued (trimmed l) ≡ true → length (trimmed l) < length l
trimmed_shorter l h k = go (margins l).back (margins l).line
  where
    even : (b : Bytes) → l ≡ (margins l).front ++ (trimmed l ++ b) → continued (trimmed l ++ b) ≡ false
    even b e = sym (continued-behind (margins l).front (trimmed l ++ b) (margins l).front_blank) ∙ ap continued (sym e) ∙ h

    go : (b : Bytes) → l ≡ (margins l).front ++ (trimmed l ++ b) → length (trimmed l) < length l
    go [] e = impossible (sym (even [] e) ∙ ap continued (append-nil (trimmed l)) ∙ k)
    go (x ∷ b) e =
        omega (arith, ap length e, length-append (margins l).front (trimmed l ++ x ∷ b), length-append (trimmed l) (x ∷ b))
