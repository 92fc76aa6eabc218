-- Texts that are split, by how they are made: blanks, and items with blanks between them. specs/Laws.antt states that
-- these are the texts that are accepted.
use Rattle.std.specs.Prelude.{◌≡◌, ℕ, ◌≤◌, ◌<◌, true, false, not, List, [], ◌∷◌, ◌++◌, length, eqb}
use Rattle.lines.specs.Bytes.{Bytes, blank, all}
use Rattle.lines.specs.Answers.{accepted}
use Rattle.lines.specs.Laws.{All}
use Rattle.items.specs.Escapes.{escape}
use Rattle.items.specs.Pieces.{backslash, quote}
use Rattle.items.specs.Split.{forbidden}

-- an element of an item as it stands in a text: a byte that stands for itself, or an escape: what stands behind the
-- backslash, and the bytes that it gives
pub data Element : Type 0 where
  itself : ℕ → Element
  escaping : (behind gives : Bytes) → Element

-- its bytes in the text
abbrev pub spelt : Element → Bytes
spelt (itself b) = b ∷ []
spelt (escaping t bs) = 0x5C ∷ t

-- and in the item
abbrev pub meant : Element → Bytes
meant (itself b) = b ∷ []
meant (escaping t bs) = bs

-- behind a backslash this is one whole escape that gives these bytes, wherever it stands and whatever follows
abbrev pub Gives : (behind gives : Bytes) → Type 0
Gives t bs = (at : ℕ) (rest : Bytes) → escape at (t ++ rest) ≡ accepted (record { bytes = bs; taken = length t })

-- an element of a bare item: no blank, no quote, no backslash; or an escape
abbrev pub BareElement : Element → Type 0
BareElement (itself b) = (blank b ≡ false) × (quote b ≡ false) × (backslash b ≡ false)
BareElement (escaping t bs) = Gives t bs

-- an element between quotes of one kind: neither this quote nor a backslash; or an escape
abbrev pub QuotedElement : ℕ → Element → Type 0
QuotedElement q (itself b) = (eqb b q ≡ false) × (backslash b ≡ false)
QuotedElement q (escaping t bs) = Gives t bs

-- an item as it stands in a text: bare, or in quotes of one kind
pub data Spelling : Type 0 where
  bare : List Element → Spelling
  quoted : ℕ → List Element → Spelling

-- a well-formed item: one or more elements of a bare item, or any number between quotes
abbrev pub SoundItem : Spelling → Type 0
SoundItem (bare es) = (0 < length es) × All BareElement es
SoundItem (quoted q es) = (quote q ≡ true) × All (QuotedElement q) es

-- elements one after another, in the text
abbrev pub all_spelt : List Element → Bytes
all_spelt [] = []
all_spelt (e ∷ es) = spelt e ++ all_spelt es

-- and in the item
abbrev pub all_meant : List Element → Bytes
all_meant [] = []
all_meant (e ∷ es) = meant e ++ all_meant es

-- an item's bytes in the text, with its quotes
abbrev pub item_spelt : Spelling → Bytes
item_spelt (bare es) = all_spelt es
item_spelt (quoted q es) = q ∷ all_spelt es ++ q ∷ []

-- the item
abbrev pub item_meant : Spelling → Bytes
item_meant (bare es) = all_meant es
item_meant (quoted q es) = all_meant es

-- an item and the blanks behind it
pub record Spaced : Type 0 where
  pub item : Spelling
  pub gap : Bytes

-- a sound item, and blanks
pub record SoundSpaced (s : Spaced) : Type 0 where
  pub sound : SoundItem s.item
  pub blanks : all blank s.gap ≡ true

-- a blank or more parts every two items
abbrev pub Parted : List Spaced → Type 0
Parted [] = Unit {0}
Parted (s ∷ []) = Unit {0}
Parted (s ∷ t ∷ ss) = (0 < length s.gap) × Parted (t ∷ ss)

-- the text of items
abbrev pub text_of : List Spaced → Bytes
text_of [] = []
text_of (s ∷ ss) = item_spelt s.item ++ s.gap ++ text_of ss

-- the items
abbrev pub items_meant : List Spaced → List Bytes
items_meant [] = []
items_meant (s ∷ ss) = item_meant s.item ∷ items_meant ss

-- a text made so: blanks, then items with blanks between them; at most 256 items and 4,096 bytes, and no byte
-- that is forbidden
pub record Spelled (t : Bytes) (xs : List Bytes) : Type 0 where
  pub before : Bytes
  pub list : List Spaced
  pub text : t ≡ before ++ text_of list
  pub before_blank : all blank before ≡ true
  pub sound : All SoundSpaced list
  pub parted : Parted list
  pub items : xs ≡ items_meant list
  pub few : length list ≤ 256
  pub short : length t ≤ 4096
  pub allowed : all (λ b. not (forbidden b)) t ≡ true
