-- A text that spells a span is read as its parts: behind digits no digit follows at once, behind a unit's name no
-- letter, so both are tokens, and the blanks between them are none.
use mathlib.Core.Path.{◌≡◌, refl, sym, ap, ◌∙◌}
use Prim.Native.Nat.{◌<◌}
use native.Mathlib.Omega.{arith}
use mathlib.Core.Bool.{true, not}
use mathlib.Core.Option.{some}
use mathlib.Core.List.{List, [], ◌∷◌, ◌++◌, append_assoc}
use lib.ListN.{length}
use Rattle.lines.specs.Bytes.{Bytes, blank, digit, letter, all}
use Rattle.lines.specs.Trim.{trim_end, trimmed}
use Rattle.lines.specs.Laws.{All}
use Rattle.lines.proofs.Bools.{and_left, all_imp}
use Rattle.lines.proofs.Trimming.{trim_start_nonblank, trim_end_nonblank, trim_start_blanks, trim_end_blanks, trimmed_both}
use Rattle.values.specs.Spans.{runs, tokens, Part, part_of, parts_of, span_parts, longest}
use Rattle.values.specs.Laws.{Spelling, SoundPart, spelt, all_spelt, all_meant, Spells, as_seconds, as_parts}
use Rattle.values.proofs.Numbers.{some_numeral}
use Rattle.values.proofs.Units.{scale_letters, some_letter}
use Rattle.lines.proofs.ByteClasses.{digit-blank, letter-blank, digit-letter, letter-digit}
use Rattle.values.proofs.Classes.{digit_class, letter_class}
use Rattle.values.proofs.Verdict.{parts_digits}
use Rattle.values.proofs.Blanks.{tokens-before, tokens-trimmed}
use Rattle.values.proofs.Forms.{longest_other, tokens-run-before, span_tokens}

-- ---- parts

-- a part before a text that starts with no letter
spelt-tokens : (p : Spelling) (t : Bytes) → SoundPart p → longest letter t ≡ []
    → tokens (runs (spelt p ++ t)) ≡ p.digits ∷ p.name ∷ tokens (runs t)
spelt-tokens p t h e =
    let letters : all letter p.name ≡ true = scale_letters p.name p.scale h.unit in
    let some : 0 < length p.name = some_letter p.name p.scale h.unit in
    let rest : Bytes = p.name ++ (p.behind ++ t) in
    let no_digit : longest digit rest ≡ [] =
    longest_other digit letter letter-digit
    p.name (p.behind ++ t) letters (λ z. absurd (omega arith)) in
    simp append_assoc
    (tokens-run-before digit digit_class digit-blank p.digits p.gap rest h.some_digit h.all_digits h.gap_blank no_digit
    ∙ ap (λ (ws : List Bytes). p.digits ∷ ws)
    (tokens-run-before letter letter_class letter-blank p.name p.behind t some letters h.behind_blank e))

digit_first : (ps : List Spelling) → All SoundPart ps → longest letter (all_spelt ps) ≡ []
unfolding longest
digit_first [] h = refl
digit_first (p ∷ ps) h =
    simp append_assoc
    (longest_other letter digit digit-letter
    p.digits (p.gap ++ (p.name ++ (p.behind ++ all_spelt ps))) h.0.all_digits (λ z. absurd (omega arith)))

spelt_parts : (ps : List Spelling) → All SoundPart ps → parts_of (tokens (runs (all_spelt ps))) ≡ some (all_meant ps)
unfolding parts_of part_of tokens runs
spelt_parts [] h = refl
spelt_parts (p ∷ ps) h =
    ap parts_of (spelt-tokens p (all_spelt ps) h.0 (digit_first ps h.1))
    ∙ rw (spelt_parts ps h.1, some_numeral p.digits h.0.some_digit h.0.all_digits, h.0.unit)

read_parts : (a : Bytes) (ps : List Spelling) → all blank a ≡ true → 0 < length ps → All SoundPart ps
    → span_parts (trimmed (a ++ all_spelt ps)) ≡ some (all_meant ps)
read_parts a [] b l h = absurd (omega arith)
read_parts a (p ∷ ps) b l h =
    let t : Bytes = all_spelt (p ∷ ps) in
    let e : tokens (runs (trimmed (a ++ t))) ≡ tokens (runs t) = tokens-trimmed (a ++ t) ∙ tokens-before a t b in
    span_tokens (trimmed (a ++ t)) p.digits p.name (tokens (runs (all_spelt ps)))
    (e ∙ spelt-tokens p (all_spelt ps) h.0 (digit_first ps h.1))
    ∙ ap parts_of e
    ∙ spelt_parts (p ∷ ps) h

-- ---- digits alone

trimmed_digits : (a d c : Bytes) → all blank a ≡ true → 0 < length d → all digit d ≡ true → all blank c ≡ true
    → trimmed (a ++ d ++ c) ≡ d
unfolding all
trimmed_digits a [] c x l h y = absurd (omega arith)
trimmed_digits a (b ∷ d) c x l h y =
    rw append_assoc
    (trimmed_both (a ++ (b ∷ d ++ c))
    ∙ ap trim_end (trim_start_blanks a (b ∷ d ++ c) x ∙ trim_start_nonblank b (d ++ c) (digit-blank b (and_left (digit b) (all digit d) h)))
    ∙ trim_end_blanks c (b ∷ d) y
    ∙ trim_end_nonblank (b ∷ d) (all_imp digit (λ b. not (blank b)) (λ b e. ap not (digit-blank b e)) (b ∷ d) h))

-- ---- both

pub spells_read : (t : Bytes) (ps : List Part) → Spells t ps → span_parts (trimmed t) ≡ some ps
spells_read t ps (as_seconds s) =
    ap span_parts (ap trimmed s.text ∙ trimmed_digits s.before s.digits s.behind s.before_blank s.some_digit s.all_digits s.behind_blank)
    ∙ parts_digits s.digits s.some_digit s.all_digits
    ∙ ap some (sym s.part)
spells_read t ps (as_parts p) =
    ap (λ (t : Bytes). span_parts (trimmed t)) p.text
    ∙ read_parts p.before p.list p.before_blank p.some_part p.sound
    ∙ ap some (sym p.parts)
