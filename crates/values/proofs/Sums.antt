-- The loop over the parts of a text: the parts read so far stand in front of the parts of what is left, and
-- the amount stands for their sum.
use mathlib.Core.Path.{◌≡◌, refl, sym, ap, subst, ◌∙◌}
use Prim.Native.Nat.{ℕ, ◌+◌, ◌*◌, ◌<◌}
use native.Mathlib.Omega.{arith}
use mathlib.Core.Option.{Option, none, some}
use mathlib.Core.List.{List, [], ◌∷◌, ◌++◌, append_assoc, append-nil}
use lib.ListN.{length, drop}
use Rattle.lines.specs.Bytes.{Bytes}
use Rattle.lines.specs.Trim.{trim_start}
use Rattle.lines.proofs.Bools.{clash}
use Rattle.values.specs.Spans.{Part, runs, tokens, parts_of, with_part, microseconds}
use Rattle.values.specs.Steps.{Stands, first_part, PartFound, Totalled}
use Rattle.std.specs.Prelude.{Option as CodeOption, Some}
use Rattle.values.proofs.Runs.{some_token}
use Rattle.values.proofs.Verdict.{fault_kept}

-- parts in front of others, where these have the form
unfoldable pub ahead : List Part → Option (List Part) → Option (List Part)
ahead ps none = none
ahead ps (some qs) = some (ps ++ qs)

ahead_nil : (o : Option (List Part)) → ahead [] o ≡ o
unfolding ahead
ahead_nil none = refl
ahead_nil (some qs) = refl

ahead_part : (ps : List Part) (p : Part) (o : Option (List Part)) → ahead ps (with_part (some p) o) ≡ ahead (ps ++ p ∷ []) o
unfolding ahead
ahead_part ps p none = ap (ahead ps) (fault_kept p)
ahead_part ps p (some qs) = ap some (sym (append_assoc ps (p ∷ []) qs))

microseconds_snoc : (ps : List Part) (p : Part) → microseconds (ps ++ p ∷ []) ≡ microseconds ps + p.number * p.scale
unfolding microseconds
microseconds_snoc [] p = omega arith
microseconds_snoc (q ∷ ps) p = rw (microseconds_snoc ps p) (omega arith)

-- the bytes at the front of the text are read, and what is left is r
pub record Walked (t : Bytes) (a : CodeOption ℕ) (r : Bytes) : Type 0 where
  pub front : Bytes
  pub whole : t ≡ front ++ r
  pub no_blank : trim_start r ≡ r
  pub list : List Part
  pub view : parts_of (tokens (runs t)) ≡ ahead list (parts_of (tokens (runs r)))
  pub total : Stands a (microseconds list)

pub walk_start : (t : Bytes) → trim_start t ≡ t → Walked t (Some 0) t
unfolding microseconds
walk_start t h =
    record {
      front = [];
      whole = refl;
      no_blank = h;
      list = [];
      view = sym (ahead_nil (parts_of (tokens (runs t))));
      total = refl;
    }

-- the first part, and then those of the other tokens
first_some : (ts : List Bytes) (p : Part) → first_part ts ≡ some p → parts_of ts ≡ with_part (some p) (parts_of (drop 2 ts))
unfolding parts_of
first_some [] p h = clash (cc)
first_some (n ∷ []) p h = clash (cc)
first_some (n ∷ u ∷ ts) p h = rw h

first_none : (ts : List Bytes) → 0 < length ts → first_part ts ≡ none → parts_of ts ≡ none
unfolding parts_of
first_none [] l h = absurd (omega arith)
first_none (n ∷ []) l h = refl
first_none (n ∷ u ∷ ts) l h = rw h

pub walk_more : (t : Bytes) (a b c : CodeOption ℕ) (r rest : Bytes) → Walked t a r → PartFound r b rest
    → ((v w : ℕ) → Stands a v → Stands b w → Stands c (v + w)) → Walked t c rest
walk_more t a b c r rest w f added =
    record {
      front = w.front ++ f.taken;
      whole = w.whole ∙ ap (λ (l : Bytes). w.front ++ l) f.whole ∙ sym (append_assoc w.front f.taken rest);
      no_blank = f.no_blank;
      list = w.list ++ f.first ∷ [];
      view = w.view
          ∙ ap (ahead w.list) (first_some (tokens (runs r)) f.first f.made ∙ ap (λ (ts : List Bytes). with_part (some f.first) (parts_of ts)) f.others)
          ∙ ahead_part w.list f.first (parts_of (tokens (runs rest)));
      total = subst (Stands c) (sym (microseconds_snoc w.list f.first))
          (added (microseconds w.list) (f.first.number * f.first.scale) w.total f.adds);
    }

-- the next two tokens make no part, and so the text has not the form
pub walk_wrong : (t : Bytes) (a : CodeOption ℕ) (r : Bytes) → Walked t a r → 0 < length r → first_part (tokens (runs r)) ≡ none
    → parts_of (tokens (runs t)) ≡ none
unfolding ahead
walk_wrong t a r w l h = w.view ∙ ap (ahead w.list) (first_none (tokens (runs r)) (some_token r l w.no_blank) h)

pub walk_done : (t : Bytes) (a : CodeOption ℕ) (r : Bytes) → Walked t a r → length r ≡ 0 → Totalled (parts_of (tokens (runs t))) a
unfolding ahead parts_of tokens runs
walk_done t a [] w h = record { list = w.list; all_parts = w.view ∙ ap some (append-nil w.list); total = w.total }
walk_done t a (b ∷ r) w h = absurd (omega arith)
