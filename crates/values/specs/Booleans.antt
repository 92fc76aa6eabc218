-- Booleans: eight words, exactly these bytes.
use Rattle.std.specs.Prelude.{Bool, true, false, ◌||◌, cond, List, [], ◌∷◌}
use Rattle.lines.specs.Bytes.{Bytes, equal}
use Rattle.lines.specs.Text.{bytes}
use Rattle.lines.specs.Answers.{Outcome, accepted, refused}

-- the four words for true
abbrev pub true_words : List Bytes
true_words = bytes "1" ∷ bytes "yes" ∷ bytes "true" ∷ bytes "on" ∷ []

-- and for false
abbrev pub false_words : List Bytes
false_words = bytes "0" ∷ bytes "no" ∷ bytes "false" ∷ bytes "off" ∷ []

-- the text is one of the words, byte for byte
abbrev pub among : List Bytes → Bytes → Bool
among [] t = false
among (w ∷ ws) t = equal t w || among ws t

-- the truth that a text states; 30 at 0 for every other text
unfoldable pub boolean_of : Bytes → Outcome Bool
unfolding equal
boolean_of t =
    cond (among true_words t) (accepted true)
    (cond (among false_words t) (accepted false)
    (refused 30 0))
