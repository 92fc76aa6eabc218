-- A text that spells items is split into them: a reading step passes the blanks and reads the first item, and what is
-- left begins with the blanks behind it.
use mathlib.Core.Path.{◌≡◌, refl, ◌∙◌}
use Prim.Native.Nat.{ℕ, zero, suc, ◌+◌, ◌≤◌}
use native.Mathlib.Nat.{zero-add}
use native.Mathlib.Omega.{arith}
use mathlib.Core.Bool.{true}
use mathlib.Core.List.{List, [], ◌∷◌, ◌++◌, append_assoc}
use lib.ListN.{length, length-append}
use borrow.Author.Tests.{le-ltb}
use Rattle.lines.specs.Bytes.{Bytes, blank, all}
use Rattle.lines.specs.Answers.{accepted}
use Rattle.lines.specs.Laws.{All}
use Rattle.lines.proofs.Bools.{and_left, and_right, any-all}
use Rattle.items.specs.Pieces.{pieces_from, pieces}
use Rattle.items.specs.Split.{item, step, collected, items_of, forbidden, split_of}
use Rattle.items.specs.Grammar.{itself, escaping, all_spelt, Spelling, bare, quoted, SoundItem, item_spelt, item_meant, Spaced, SoundSpaced, Parted, text_of, items_meant, Spelled}
use Rattle.items.proofs.StepLaws.{step_end, step-blank, step_quote, step_bare}
use Rattle.items.proofs.Elements.{parts, bare_elements, quoted_elements}

-- ---- a step

item_step : (n : ℕ) (s : Spelling) (at : ℕ) (t : Bytes) → SoundItem s → parts t ≡ true
    → step (suc n) (pieces_from 0 at (item_spelt s ++ t)) ≡ item (item_meant s) (pieces_from 0 (length (item_spelt s) + at) t)
item_step n (bare []) at t h p = absurd (omega arith)
item_step n (bare (itself b ∷ es)) at t h p =
    step_bare n at b (all_spelt es ++ t) h.1.0.0 h.1.0.1 ∙ bare_elements (itself b ∷ es) at t h.1 p
item_step n (bare (escaping u bs ∷ es)) at t h p =
    step_bare n at 0x5C (u ++ all_spelt es ++ t) refl refl ∙ bare_elements (escaping u bs ∷ es) at t h.1 p
item_step n (quoted q es) at t h p =
    let o : suc (length (all_spelt es) + suc at) ≡ suc (length (all_spelt es ++ q ∷ [])) + at = simp length-append (omega arith) in
    rw (
      append_assoc (all_spelt es) (q ∷ []) t,
      step_quote n at q (all_spelt es ++ q ∷ t) h.0,
      quoted_elements q at es (suc at) t h.0 h.1 p,
      o,
    )

blanks_step : (n : ℕ) (a : Bytes) (at : ℕ) (t : Bytes) → all blank a ≡ true
    → step n (pieces_from 0 at (a ++ t)) ≡ step n (pieces_from 0 (length a + at) t)
unfolding all
blanks_step n [] at t h = rw (zero-add at)
blanks_step n (b ∷ a) at t h =
    let o : length a + suc at ≡ suc (length a) + at = omega arith in
    step-blank n at b (a ++ t) (and_left (blank b) (all blank a) h)
    ∙ rw (← o) (blanks_step n a (suc at) t (and_right (blank b) (all blank a) h))

-- ---- items

-- an item ends where its blanks begin
gap_parts : (s : Spaced) (ss : List Spaced) → all blank s.gap ≡ true → Parted (s ∷ ss) → parts (s.gap ++ text_of ss) ≡ true
unfolding parts all
gap_parts s ss h p = go s.gap h ss p
  where
    go : (g : Bytes) → all blank g ≡ true → (ss : List Spaced) → Parted (record { item = s.item; gap = g } ∷ ss)
        → parts (g ++ text_of ss) ≡ true
    go (b ∷ g) h ss p = and_left (blank b) (all blank g) h
    go [] h [] p = refl
    go [] h (r ∷ ss) p = absurd (omega arith)

parted_rest : (s : Spaced) (ss : List Spaced) → Parted (s ∷ ss) → Parted ss
parted_rest s [] p = tt
parted_rest s (r ∷ ss) p = p.1

items_spelled : (ss : List Spaced) (n : ℕ) (a : Bytes) (at : ℕ) → length ss ≤ n → all blank a ≡ true → All SoundSpaced ss → Parted ss
    → items_of n (pieces_from 0 at (a ++ text_of ss)) ≡ accepted (items_meant ss)
unfolding items_of collected
items_spelled [] zero a at l b h p = rw (blanks_step zero a at [] b, step_end zero (length a + at))
items_spelled [] (suc n) a at l b h p = rw (blanks_step (suc n) a at [] b, step_end (suc n) (length a + at))
items_spelled (s ∷ ss) zero a at l b h p = absurd (omega arith)
items_spelled (s ∷ ss) (suc n) a at l b h p =
    let i : Bytes = item_spelt s.item in
    rw (
      append_assoc i s.gap (text_of ss),
      blanks_step (suc n) a at (i ++ (s.gap ++ text_of ss)) b,
      item_step n s.item (length a + at) (s.gap ++ text_of ss) h.0.sound (gap_parts s ss h.0.blanks p),
      items_spelled ss n s.gap (length i + (length a + at)) (omega arith) h.0.blanks h.1 (parted_rest s ss p),
    )

pub spelled_splits : (t : Bytes) (xs : List Bytes) → Spelled t xs → split_of t ≡ accepted xs
unfolding split_of pieces
spelled_splits t xs s =
    rw (le-ltb 4096 (length t) s.short, any-all forbidden t, s.allowed, s.text, s.items)
    (items_spelled s.list 256 s.before 0 s.few s.before_blank s.sound s.parted)
