-- Texts that spell items, built up from the right: nothing, a blank in front, an item in front. So a text is shown to
-- be spelled by going along its items.
use mathlib.Core.Path.{◌≡◌, refl, sym, ap, ◌∙◌}
use Prim.Native.Nat.{ℕ, suc, ◌≤◌}
use native.Mathlib.Omega.{arith}
use mathlib.Core.Bool.{true, false, not}
use mathlib.Core.List.{List, [], ◌∷◌, ◌++◌, append_assoc}
use lib.ListN.{length}
use Rattle.lines.specs.Bytes.{Bytes, blank, all}
use Rattle.lines.specs.Laws.{All}
use Rattle.lines.proofs.Bools.{both, impossible}
use Rattle.items.specs.Split.{forbidden}
use Rattle.items.specs.Grammar.{itself, escaping, Spelling, bare, quoted, SoundItem, item_spelt, item_meant, Spaced, SoundSpaced, Parted, text_of, items_meant, Spelled}
use Rattle.items.proofs.Elements.{parts}
use Rattle.items.proofs.StepLaws.{quote-blank}

-- what makes a text a spelled one, but for its size and its bytes
pub record Listed (t : Bytes) (xs : List Bytes) : Type 0 where
  pub before : Bytes
  pub list : List Spaced
  pub text : t ≡ before ++ text_of list
  pub before_blank : all blank before ≡ true
  pub sound : All SoundSpaced list
  pub parted : Parted list
  pub items : xs ≡ items_meant list

-- ---- building one up

pub none_listed : Listed [] []
unfolding all
none_listed = record { before = []; list = []; text = refl; before_blank = refl; sound = tt; parted = tt; items = refl }

pub blank-before : (b : ℕ) {t : Bytes} {xs : List Bytes} → blank b ≡ true → Listed t xs → Listed (b ∷ t) xs
unfolding all
blank-before b h r =
    record {
      before = b ∷ r.before;
      list = r.list;
      text = ap (λ (t : Bytes). b ∷ t) r.text;
      before_blank = both (blank b) (all blank r.before) h r.before_blank;
      sound = r.sound;
      parted = r.parted;
      items = r.items;
    }

-- an item begins with no blank, and is not empty in the text
item_starts : (s : Spelling) (t : Bytes) → SoundItem s → parts (item_spelt s ++ t) ≡ false
unfolding parts
item_starts (bare []) t h = absurd (omega arith)
item_starts (bare (itself b ∷ es)) t h = h.1.0.0
item_starts (bare (escaping u bs ∷ es)) t h = refl
item_starts (quoted q es) t h = quote-blank q h.0

-- so blanks stand between an item and the next one
item_parted : (s : Spelling) (g : Bytes) (ss : List Spaced) → All SoundSpaced ss → Parted ss → parts (g ++ text_of ss) ≡ true
    → Parted (record { item = s; gap = g } ∷ ss)
item_parted s g [] h p q = tt
item_parted s (b ∷ g) (r ∷ ss) h p q = (omega arith, p)
item_parted s [] (r ∷ ss) h p q =
    let e : parts (item_spelt r.item ++ r.gap ++ text_of ss) ≡ false =
    rw (append_assoc (item_spelt r.item) r.gap (text_of ss)) (item_starts r.item (r.gap ++ text_of ss) h.0.sound) in
    impossible (sym e ∙ q)

pub item_before : (s : Spelling) {t : Bytes} {xs : List Bytes} → SoundItem s → parts t ≡ true → Listed t xs
    → Listed (item_spelt s ++ t) (item_meant s ∷ xs)
unfolding all
item_before s h p r =
    record {
      before = [];
      list = record { item = s; gap = r.before } ∷ r.list;
      text = rw r.text (sym (append_assoc (item_spelt s) r.before (text_of r.list)));
      before_blank = refl;
      sound = (record { sound = h; blanks = r.before_blank }, r.sound);
      parted = item_parted s r.before r.list r.sound r.parted (rw r.text at p);
      items = ap (λ (ys : List Bytes). item_meant s ∷ ys) r.items;
    }

-- ---- a spelled text

count_meant : (ss : List Spaced) → length (items_meant ss) ≡ length ss
count_meant [] = refl
count_meant (s ∷ ss) = ap suc (count_meant ss)

pub listed_spelled : {t : Bytes} {xs : List Bytes} → length xs ≤ 256 → length t ≤ 4096 → all (λ b. not (forbidden b)) t ≡ true
    → Listed t xs → Spelled t xs
listed_spelled n l a r =
    let e : length r.list ≡ length (items_meant r.list) = sym (count_meant r.list) in
    let few : length r.list ≤ 256 = rw (e, ← r.items) n in
    record {
      before = r.before;
      list = r.list;
      text = r.text;
      before_blank = r.before_blank;
      sound = r.sound;
      parted = r.parted;
      items = r.items;
      few = few;
      short = l;
      allowed = a;
    }
