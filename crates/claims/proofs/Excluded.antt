-- The calls on two texts and two lists: the definitions compute, and the promises hand the outcome on.
use mathlib.Core.Path.{◌≡◌, ap, ◌∙◌}
use Prim.Native.Nat.{ℕ, ◌≤◌}
use mathlib.Core.List.{List, [], ◌∷◌}
use lib.ListN.{length}
use borrow.Author.Tests.{le-ltb}
use Rattle.lines.specs.Bytes.{Bytes}
use Rattle.lines.specs.Text.{bytes}
use Rattle.lines.specs.Answers.{Outcome, accepted}
use Rattle.items.specs.Split.{split_of, split_in, bytes_of, ends_from}
use Rattle.items.specs.Write.{write_in}
use Rattle.items.specs.Answers.{counted, bytes_after, ends_after}
use Rattle.items.proofs.Laws.{space_is_enough}
use Rattle.item_writer.specs.Answers.{measured, text_after}
use Rattle.claims.specs.Excluded.{SplitsNothing, SplitsTwo, WritesNothing, WritesTwo}

pub splits_nothing : SplitsNothing
unfolding split_of bytes_of
splits_nothing b e r b' e' h k s = s.answer ∙ ap counted (space_is_enough (length b) (length e) (bytes "") h k)

two_split : (b e : ℕ) → 4096 ≤ b → 256 ≤ e → split_in b e (bytes "a bc") ≡ accepted (bytes "a" ∷ bytes "bc" ∷ [])
unfolding split_of
two_split b e h k = space_is_enough b e (bytes "a bc") h k

pub splits_two : SplitsTwo
unfolding bytes_of ends_from
splits_two b e r b' e' h k s =
    let o = two_split (length b) (length e) h k in
    record {
      answer = s.answer ∙ ap counted o;
      new_bytes = s.left.new_bytes ∙ ap (λ (x : Outcome (List Bytes)). bytes_after x b) o;
      new_ends = s.left.new_ends ∙ ap (λ (x : Outcome (List Bytes)). ends_after x e) o;
    }

none_written : (out : ℕ) → 4096 ≤ out → write_in out (bytes "abc") [] ≡ accepted []
unfolding write_in
none_written out h = rw (le-ltb out 4096 h)

two_written : (out : ℕ) → 4096 ≤ out → write_in out (bytes "abc") (1 ∷ 3 ∷ []) ≡ accepted (bytes "a bc")
unfolding write_in
two_written out h = rw (le-ltb out 4096 h)

pub writes_nothing : WritesNothing
writes_nothing out r out' h w = w.answer ∙ ap measured (none_written (length out) h)

pub writes_two : WritesTwo
writes_two out r out' h w =
    let o = two_written (length out) h in
    (w.answer ∙ ap measured o, w.new_out ∙ ap (λ (x : Outcome Bytes). text_after x out) o)
