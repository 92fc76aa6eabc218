-- A text that is none of the words that a `match` names.
use mathlib.Core.Path.{◌≡◌, refl, ap, ◌∙◌}
use Prim.Native.Nat.{ℕ}
use mathlib.Core.Bool.{false}
use mathlib.Core.Option.{none}
use mathlib.Core.List.{List, [], ◌∷◌}
use lib.ListN.{length, get_or}
use Rattle.lines.specs.Bytes.{Bytes, equal}
use Rattle.lines.specs.Laws.{All}
use Rattle.lines.proofs.Bools.{is_false, equal_eq}
use Rattle.values.specs.Booleans.{among, true_words, false_words, boolean_of}
use Rattle.lines.specs.Answers.{refused}
use Rattle.values.specs.Spans.{TimeUnit, scale_in}
use Rattle.values.proofs.Units.{scale_cons, scale_nil}

-- the text has another length, or another byte somewhere
abbrev pub Differs : Bytes → Bytes → Type 0
Differs t w = length t ≡ length w → ((k : ℕ) → get_or t k 0 ≡ get_or w k 0) → ⊥

differs : (t w : Bytes) → Differs t w → equal t w ≡ false
differs t w d = is_false (equal t w) (λ e. let s = equal_eq t w e in d (ap length s) (λ k. ap (λ (l : Bytes). get_or l k 0) s))

-- none of the words
pub among_none : (t : Bytes) (ws : List Bytes) → All (Differs t) ws → among ws t ≡ false
among_none t [] d = refl
among_none t (w ∷ ws) d = rw (differs t w d.0) (among_none t ws d.1)

-- the name of none of the units
pub scale_none : (t : Bytes) (us : List TimeUnit) → All (λ (u : TimeUnit). Differs t u.name) us → scale_in us t ≡ none
scale_none t [] d = scale_nil t
scale_none t (u ∷ us) d = scale_cons u us t ∙ rw (differs t u.name d.0) (scale_none t us d.1)

-- neither a word for true nor one for false
pub neither : (t : Bytes) → All (Differs t) true_words → All (Differs t) false_words → boolean_of t ≡ refused 30 0
unfolding boolean_of
neither t d e = rw (among_none t true_words d, among_none t false_words e)
