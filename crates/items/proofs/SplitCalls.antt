-- A call of `split`, by its answer: each refusal, and the items that were read and copied.
use mathlib.Core.Path.{◌≡◌, refl, sym, ap, subst, ◌∙◌}
use Prim.Native.Nat.{ℕ, ◌+◌, ◌-◌, ◌≤◌, ◌<◌}
use native.Mathlib.Omega.{arith}
use mathlib.Core.Bool.{cond}
use mathlib.Core.List.{List}
use lib.Dec.{leb}
use lib.ListN.{length, take}
use borrow.Author.Tests.{lt-ltb, le-ltb}
use Rattle.lines.specs.Bytes.{Bytes}
use Rattle.lines.specs.Answers.{Outcome, refused}
use Rattle.lines.specs.Buffers.{put}
use Rattle.lines.proofs.Buffers.{front_copied}
use Rattle.items.specs.Pieces.{pieces}
use Rattle.items.specs.Split.{forbidden, items_of, split_of, split_in, bytes_of, ends_from}
use Rattle.items.specs.Answers.{number_of, place_of, counted, bytes_after, ends_after, ItemsLeft, SplitLeaves, Splits}
use Rattle.items.specs.Steps.{AllRead}
use Rattle.items.specs.declared.error.Error.{Error}
use Rattle.items.specs.declared.error.Error.TheVariants.{ShortBuffer, TextTooLong, ForbiddenByte}
use Rattle.items.specs.declared.splitter.Counts.{Counts}
use Rattle.std.specs.Prelude.{Result, Ok, Err, position, Some, None}
use Rattle.items.proofs.Forbidden.{forbidden-there, none_forbidden}
use Rattle.items.proofs.SplitLoop.{ends-length}
use Rattle.items.proofs.Verdicts.{enough_space}

-- ---- by way of buffers of its own

-- a refusal leaves the lent buffers as they were
pub items_kept : (o : Outcome (List Bytes)) (n p : ℕ) → o ≡ refused n p → (bytes : Bytes) (ends : List ℕ) → ItemsLeft o bytes ends bytes ends
items_kept o n p e bytes ends =
    subst (λ (x : Outcome (List Bytes)). ItemsLeft x bytes ends bytes ends) (sym e) (record { new_bytes = refl; new_ends = refl })

pub apart_refused : (o : Outcome (List Bytes)) (k : Error) → o ≡ refused (number_of k) (place_of k) → (bytes : Bytes) (ends : List ℕ)
    → SplitLeaves o bytes ends (Err k) bytes ends
apart_refused o k f bytes ends =
    record { answer = sym (ap counted f); left = items_kept o (number_of k) (place_of k) f bytes ends }

-- items that were read are copied
pub apart_copied : (o : Outcome (List Bytes)) (b b' : Bytes) (e e' : List ℕ) (c : Counts)
    → AllRead o c.items c.bytes b b' e e' → (bytes bytes' : Bytes) (ends ends' : List ℕ) → 4096 ≤ length bytes → 256 ≤ length ends
    → bytes' ≡ cond (leb (0 + length (take c.bytes b')) (length bytes)) (put bytes 0 (take c.bytes b')) bytes
    → ends' ≡ cond (leb (0 + length (take c.items e')) (length ends)) (put ends 0 (take c.items e')) ends
    → SplitLeaves o bytes ends (Ok c) bytes' ends'
apart_copied o b b' e e' c h bytes bytes' ends ends' l k p q =
    let zm : c.bytes - 0 ≡ c.bytes = omega arith in
    let zn : c.items - 0 ≡ c.items = omega arith in
    record {
      answer = rw (← h.count_is, ← h.size_is) at (sym (ap counted h.outcome));
      left = record {
        new_bytes =
            front_copied (bytes_of h.items) b b' bytes bytes' c.bytes h.bytes_are h.size_is (omega (arith, h.fits)) (rw zm p)
            ∙ sym (ap (λ (x : Outcome (List Bytes)). bytes_after x bytes) h.outcome);
        new_ends =
            front_copied (ends_from 0 h.items) e e' ends ends' c.items h.ends_are (h.count_is ∙ sym (ends-length 0 h.items))
            (omega (arith, h.few)) (rw zn q)
            ∙ sym (ap (λ (x : Outcome (List Bytes)). ends_after x ends) h.outcome);
      };
    }

-- ---- the call

module _ (t bytes : Bytes) (ends : List ℕ) where
  call_refused : (k : Error) → split_in (length bytes) (length ends) t ≡ refused (number_of k) (place_of k) → Splits t bytes ends (Err k) bytes ends
  call_refused k e =
      record {
        answer = sym (ap counted e);
        left = items_kept _ (number_of k) (place_of k) e bytes ends;
      }

  pub short_bytes : length bytes < 4096 → Splits t bytes ends (Err ShortBuffer) bytes ends
  unfolding split_in
  short_bytes h = call_refused ShortBuffer (rw (lt-ltb (length bytes) 4096 h))

  module _ (hb : 4096 ≤ length bytes) where
    pub short_ends : length ends < 256 → Splits t bytes ends (Err ShortBuffer) bytes ends
    unfolding split_in
    short_ends h = call_refused ShortBuffer (rw (le-ltb (length bytes) 4096 hb, lt-ltb (length ends) 256 h))

    module _ (he : 256 ≤ length ends) where
      enough : split_in (length bytes) (length ends) t ≡ split_of t
      enough = enough_space (length bytes) (length ends) t hb he

      pub too_long : 4096 < length t → Splits t bytes ends (Err TextTooLong) bytes ends
      unfolding split_of
      too_long h = call_refused TextTooLong (enough ∙ rw (lt-ltb 4096 (length t) h))

      module _ (ht : length t ≤ 4096) where
        pub forbidden_byte : (i : ℕ) → position forbidden t ≡ Some i → Splits t bytes ends (Err (ForbiddenByte i)) bytes ends
        unfolding split_of
        forbidden_byte i h =
            call_refused (ForbiddenByte i)
            (enough ∙ rw (le-ltb 4096 (length t) ht, (forbidden-there t i h).0, (forbidden-there t i h).1))

        pub split_apart : position forbidden t ≡ None → (r : Result Counts Error) (bytes' : Bytes) (ends' : List ℕ)
            → SplitLeaves (items_of 256 (pieces t)) bytes ends r bytes' ends' → Splits t bytes ends r bytes' ends'
        unfolding split_of
        split_apart h r bytes' ends' s =
            let f : split_in (length bytes) (length ends) t ≡ items_of 256 (pieces t) = enough ∙ rw (le-ltb 4096 (length t) ht, none_forbidden t h) in
            subst (λ (o : Outcome (List Bytes)). SplitLeaves o bytes ends r bytes' ends') (sym f) s
