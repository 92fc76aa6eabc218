-- What a physical line leaves in the buffer: nothing, its bytes, or its bytes with a space for the last.
use mathlib.Core.Path.{◌≡◌, refl, sym, ap, ◌∙◌}
use Prim.Native.Nat.{ℕ, ◌+◌, ◌-◌, ◌≤◌}
use native.Mathlib.Omega.{arith}
use mathlib.Core.Bool.{true, false, cond}
use mathlib.Core.List.{[], ◌∷◌}
use lib.ListN.{length, set, length-append}
use lib.Dec.{leb}
use borrow.Author.Tests.{le-leb, not-false}
use Rattle.lines.specs.Bytes.{Bytes}
use Rattle.lines.specs.Lines.{comment, continued, spaced}
use Rattle.lines.specs.Buffers.{put}
use Rattle.lines.specs.LineSteps.{piece, PieceOf}
use Rattle.lines.specs.declared.joiner.Piece.{Piece}
use Rattle.lines.proofs.Buffers.{put_nil, set-put}
use Rattle.lines.proofs.Bools.{by_cases, not_true}
use Rattle.lines.proofs.Runs.{Spaced, is_spaced}
use Rattle.lines.proofs.Joining.{piece-comment, piece_open, piece_line, piece-length, ends_line}

nil : (l : Bytes) → length l ≡ 0 → l ≡ []
nil [] e = refl
nil (b ∷ bs) e = absurd (omega arith)

-- the last byte of a part that was put becomes a space
pub put-spaced : (d l : Bytes) (n : ℕ) → Spaced l → n + length l ≤ length d
    → set (put d n l) (n + length l - 1) 0x20 ≡ put d n (spaced l)
put-spaced d l n s h =
    let size : length l ≡ length s.front + 1 = ap length s.was ∙ length-append s.front (0x5C ∷ []) in
    let at : n + length l - 1 ≡ n + length s.front = omega arith in
    ap (λ (k : ℕ). set (put d n l) k 0x20) at
    ∙ ap (λ (x : Bytes). set (put d n x) (n + length s.front) 0x20) s.was
    ∙ set-put d n s.front 0x5C 0x20 (omega arith)
    ∙ ap (put d n) (sym s.now_is)

module _ (l d : Bytes) (n : ℕ) (p : Piece) (is : PieceOf l p) where
  pub put_nothing : p.length ≡ 0 → d ≡ put d n (piece l)
  put_nothing e = sym (ap (put d n) (nil (piece l) (sym is.length_is ∙ e)) ∙ put_nil d n)

  module _ (some : p.length ≡ 0 → ⊥) where
    pub no_comment : comment l ≡ false
    no_comment = by_cases (comment l) (λ e. absurd (some (is.length_is ∙ ap length (piece-comment l e).0))) (λ e. e)

    pub length_line : p.length ≡ length l
    length_line = is.length_is ∙ piece-length l no_comment

    module _ (fits : n + length (piece l) ≤ length d) (new : Bytes)
        (copied : new ≡ cond (leb (n + length l) (length d)) (put d n l) d) where
      room : n + length l ≤ length d
      room = rw (piece-length l no_comment) at fits

      copy_is : new ≡ put d n l
      copy_is = copied ∙ rw (le-leb (n + length l) (length d) room)

      pub put_line : p.ends ≡ true → new ≡ put d n (piece l)
      put_line e =
          let k : continued l ≡ false = not_true (continued l) (sym (ends_line l no_comment) ∙ sym is.ends_is ∙ e) in
          copy_is ∙ ap (put d n) (sym (piece_line l no_comment k).0)

      pub put_open : p.ends ≡ false → set new (n + p.length - 1) 0x20 ≡ put d n (piece l)
      put_open e =
          let k : continued l ≡ true = not-false (continued l) (sym (ends_line l no_comment) ∙ sym is.ends_is ∙ e) in
          ap (λ (i : ℕ). set new (n + i - 1) 0x20) length_line
          ∙ ap (λ (x : Bytes). set x (n + length l - 1) 0x20) copy_is
          ∙ put-spaced d l n (is_spaced l k) room
          ∙ ap (put d n) (sym (piece_open l no_comment k).0)
