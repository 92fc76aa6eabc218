-- What a text is split into is no longer than the text: an element means at most as many bytes as it takes.
use mathlib.Core.Path.{◌≡◌, refl, ap}
use Prim.Native.Nat.{ℕ, ◌≤◌}
use native.Mathlib.Omega.{arith}
use mathlib.Core.List.{List, [], ◌∷◌, ◌++◌}
use lib.ListN.{length, length-append}
use Rattle.lines.specs.Bytes.{Bytes}
use Rattle.lines.specs.Answers.{accepted}
use Rattle.lines.specs.Laws.{All}
use Rattle.items.specs.Split.{bytes_of}
use Rattle.items.specs.Grammar.{Element, itself, escaping, spelt, meant, Gives, BareElement, QuotedElement, Spelling, bare, quoted, SoundItem, all_spelt, all_meant, item_spelt, item_meant, Spaced, SoundSpaced, text_of, items_meant, Spelled}
use Rattle.items.specs.Laws.{SplitFits}
use Rattle.items.proofs.EscapeSteps.{Sized, escape-sized}
use Rattle.items.proofs.ItemsBack.{split_spelled}

gives_short : (t bs : Bytes) → Gives t bs → length bs ≤ length (0x5C ∷ t)
gives_short t bs g =
    let s : Sized (length (t ++ [])) (accepted (record { bytes = bs; taken = length t })) = rw (g 0 []) at (escape-sized 0 (t ++ [])) in
    omega (arith, s.1)

module _ (P : Element → Type 0) (short : (e : Element) → P e → length (meant e) ≤ length (spelt e)) where
  elements_short : (es : List Element) → All P es → length (all_meant es) ≤ length (all_spelt es)
  elements_short [] h = omega arith
  elements_short (e ∷ es) h =
      omega (arith, short e h.0, elements_short es h.1, length-append (meant e) (all_meant es), length-append (spelt e) (all_spelt es))

bare_short : (e : Element) → BareElement e → length (meant e) ≤ length (spelt e)
bare_short (itself b) h = omega arith
bare_short (escaping t bs) h = gives_short t bs h

quoted_short : (q : ℕ) (e : Element) → QuotedElement q e → length (meant e) ≤ length (spelt e)
quoted_short q (itself b) h = omega arith
quoted_short q (escaping t bs) h = gives_short t bs h

item_short : (i : Spelling) → SoundItem i → length (item_meant i) ≤ length (item_spelt i)
item_short (bare es) h = elements_short BareElement bare_short es h.1
item_short (quoted q es) h =
    omega (arith, elements_short (QuotedElement q) (quoted_short q) es h.1, length-append (all_spelt es) (q ∷ []))

items_short : (ss : List Spaced) → All SoundSpaced ss → length (bytes_of (items_meant ss)) ≤ length (text_of ss)
unfolding bytes_of
items_short [] h = omega arith
items_short (s ∷ ss) h =
    omega (arith, item_short s.item h.0.sound, items_short ss h.1, length-append (item_meant s.item) (bytes_of (items_meant ss)), length-append (item_spelt s.item ++ s.gap) (text_of ss), length-append (item_spelt s.item) s.gap)

items_many : (ss : List Spaced) → length (items_meant ss) ≡ length ss
items_many [] = refl
items_many (s ∷ ss) = omega (arith, items_many ss)

pub split_fits : SplitFits
split_fits t xs h =
    let s : Spelled t xs = split_spelled t xs h in (
      omega (arith, items_short s.list s.sound, ap length s.text, length-append s.before (text_of s.list), ap (λ (l : List Bytes). length (bytes_of l)) s.items),
      omega (arith, s.few, ap length s.items, items_many s.list),
    )
