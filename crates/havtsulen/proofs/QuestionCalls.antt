-- The questions to a table in buffers.
use mathlib.Core.Path.{◌≡◌, refl, sym, ap, subst, ◌∙◌}
use Prim.Native.Nat.{ℕ, zero, suc, ◌+◌, ◌≤◌, ◌<◌}
use native.Mathlib.Omega.{arith}
use mathlib.Core.Bool.{false}
use mathlib.Core.List.{List}
use lib.ListN.{length}
use lib.Dec.{eqb}
use Rattle.std.specs.Prelude.{Result, Ok, Err}
use Rattle.std.specs.Result.{result_or, result_unwrap_or}
use Rattle.lines.specs.Bytes.{Bytes}
use Rattle.lines.specs.Answers.{Outcome, accepted, refused}
use Rattle.lines.specs.Buffers.{filled}
use Rattle.lines.proofs.Bools.{impossible}
use Rattle.lookup.specs.Decoding.{Lent, part}
use Rattle.lookup.specs.Questions.{Part, index_in, value_in, part_in}
use Rattle.lookup.specs.Answers.{number_of, place_of, find_means, value_means, part_means, bytes_or, part_or}
use Rattle.lookup.specs.Laws.{PartOfValue}
use Rattle.lookup.specs.declared.error.Error.{Error}
use Rattle.lookup.specs.declared.search.Which.{Which}
use Rattle.lookup.specs.declared.search.Which.TheVariants.{Last}
use Rattle.lookup.specs.declared.values.Part as declared
use Rattle.lookup.proofs.Laws.{parts_are_values}
use Rattle.havtsulen.specs.Reports.{outcome_of, Reports}
use Rattle.havtsulen.specs.Answers.{number_told, part_told, place_told, which_of, NamesValue, ReportsFind, ReportsValue, ReportsValueCheck}
use Rattle.havtsulen.specs.Steps.{Replies}
use Rattle.havtsulen.proofs.Numbers.{lookup_number}
use Rattle.havtsulen.proofs.Reporting.{replied, replied_refusal, with_short, with_long, short, after_long, meaning, said}

-- ---- which entry

-- any number but 0 asks for the last
pub asks_last : (n : ℕ) → 0 < n → Last ≡ which_of n
asks_last zero h = absurd (omega arith)
asks_last (suc n) h = refl

-- ---- the index of an entry

module _ (b : Lent) (which : ℕ) (section key : Bytes) (report : List ℕ) where
  abbrev found : Outcome ℕ
  found = index_in b (which_of which) section key

  pub find_short : length report < 4 → ReportsFind b which section key report 1 report
  find_short h = short number_told _ report h (with_short report found h)

  pub find_told : 4 ≤ length report → (w : Which) → w ≡ which_of which → (a : Result ℕ Error) → find_means a ≡ index_in b w section key
      → (r : ℕ) (report' : List ℕ) → Reports number_told (outcome_of number_of place_of a) report r report'
      → ReportsFind b which section key report r report'
  find_told h w asked a e =
      said number_told _ _
      (meaning number_of place_of find_means (λ x. refl) (λ x. refl) a ∙ e ∙ ap (λ (v : Which). index_in b v section key) asked ∙ sym (with_long report found h))
      report

  -- the same, with what is told before what it means
  pub find_reported : 4 ≤ length report → (w : Which) → w ≡ which_of which → (a : Result ℕ Error) (r : ℕ) (report' : List ℕ)
      → Reports number_told (outcome_of number_of place_of a) report r report' → find_means a ≡ index_in b w section key
      → ReportsFind b which section key report r report'
  find_reported h w asked a r report' p e = find_told h w asked a e r report' p

-- ---- the part that a value is

module _ (b : Lent) (i : ℕ) (report : List ℕ) where
  -- a part that is inside the text and holds the value
  part_holds : (o : Outcome Part) → PartOfValue b i o
      → ((part_or o).start + (part_or o).size ≤ length b.text) × (part b.text (part_or o).start (part_or o).size ≡ bytes_or (value_in b i))
  part_holds (accepted p) q = (q.0, rw q.1)
  part_holds (refused n p) q = (omega arith, rw q)

  -- a report that tells this part names it
  names-value : (p : Part) → p ≡ part_or (part_in b i) → (report' : List ℕ) → report' ≡ filled (part_told p) report → NamesValue b i report'
  names-value p e report' q =
      let h = part_holds (part_in b i) (parts_are_values b i) in
      subst (NamesValue b i) (sym q)
      (subst (λ (x : Part). NamesValue b i (filled (part_told x) report)) (sym e) (record { inside = h.0; bytes = h.1 }))

  -- a refused call names nothing
  refused_names : (r : ℕ) → eqb r 0 ≡ false → (report' : List ℕ) → r ≡ 0 → NamesValue b i report'
  refused_names r z report' e = impossible (sym z ∙ ap (λ (n : ℕ). eqb n 0) e)

  abbrev holding : Outcome Part
  holding = accepted (part_or (part_in b i))

  pub check_short : length report < 4 → ReportsValueCheck b i report 1 report
  check_short h = record { reports = short part_told _ report h (with_short report (part_in b i) h); names = refused_names 1 refl report }

  pub value_short : length report < 4 → ReportsValue b i report 1 report
  value_short h = record { reports = short part_told _ report h (with_short report holding h); names = refused_names 1 refl report }

  -- what is told of a part in the code's form is told of the part
  told_part : (p : declared.Part) (r : ℕ) (report' : List ℕ) → Reports place_told (accepted p) report r report' → Reports part_told (accepted (part_means p)) report r report'
  told_part p r report' q = record { answer = q.answer; decides = q.decides; new_report = q.new_report }

  told_parts : (a : Result declared.Part Error) (r : ℕ) (report' : List ℕ) → Reports place_told (outcome_of number_of place_of a) report r report'
      → Reports part_told (value_means a) report r report'
  told_parts (Ok p) r report' q = told_part p r report' q
  told_parts (Err e) r report' q = record { answer = q.answer; decides = q.decides; new_report = q.new_report }

  module _ (h : 4 ≤ length report) where
    -- a report of an answer names the value, where the call is accepted
    answer_names : (a : Result declared.Part Error) → value_means a ≡ part_in b i → (r : ℕ) (report' : List ℕ)
        → Reports place_told (outcome_of number_of place_of a) report r report' → r ≡ 0 → NamesValue b i report'
    answer_names (Ok p) e r report' q z = names-value (part_means p) (ap part_or e) report' (q.new_report ∙ after_long report h (place_told p))
    answer_names (Err x) e r report' q z = refused_names r q.decides report' z

    pub check_told : (a : Result declared.Part Error) → value_means a ≡ part_in b i → (r : ℕ) (report' : List ℕ)
        → Reports place_told (outcome_of number_of place_of a) report r report' → ReportsValueCheck b i report r report'
    check_told a e r report' q =
        record {
          reports = said part_told _ _ (e ∙ sym (with_long report (part_in b i) h)) report r report' (told_parts a r report' q);
          names = answer_names a e r report' q;
        }

    -- where there is no value, the empty part at the start is told
    pub value_told : (a : Result declared.Part Error) → value_means a ≡ part_in b i → (p : declared.Part)
        → p ≡ result_unwrap_or a (record { start = 0; length = 0 }) → (r : ℕ) (report' : List ℕ)
        → Reports place_told (accepted p) report r report' → ReportsValue b i report r report'
    value_told a e p u r report' q =
        let m : part_means p ≡ part_or (part_in b i) = ap part_means u ∙ part_is a ∙ ap part_or e in
        record {
          reports = said part_told _ _ (ap accepted m ∙ sym (with_long report holding h)) report r report' (told_part p r report' q);
          names = λ z. names-value (part_means p) m report' (q.new_report ∙ after_long report h (place_told p));
        }
      where
        part_is : (v : Result declared.Part Error) → part_means (result_unwrap_or v (record { start = 0; length = 0 })) ≡ part_or (value_means v)
        part_is (Ok x) = refl
        part_is (Err x) = refl

    -- the same of what is told where there is no value: the empty part
    pub value_reported : (a : Result declared.Part Error) → value_means a ≡ part_in b i → (o : Result declared.Part Error)
        → o ≡ result_or a (Ok (record { start = 0; length = 0 })) → (r : ℕ) (report' : List ℕ)
        → Reports place_told (outcome_of number_of place_of o) report r report' → ReportsValue b i report r report'
    value_reported a e o u r report' q =
        value_told a e (result_unwrap_or a (record { start = 0; length = 0 })) refl r report'
        (said place_told _ _ (ap (outcome_of number_of place_of) u ∙ either a) report r report' q)
      where
        either : (v : Result declared.Part Error)
            → outcome_of number_of place_of (result_or v (Ok (record { start = 0; length = 0 }))) ≡ accepted (result_unwrap_or v (record { start = 0; length = 0 }))
        either (Ok x) = refl
        either (Err x) = refl

-- ---- the same from a reply, for what is accepted and for a refusal

module _ (b : Lent) (which : ℕ) (section key : Bytes) (report : List ℕ) (h : 4 ≤ length report) (w : Which) (asked : w ≡ which_of which)
    (a : Result ℕ Error) (e : find_means a ≡ index_in b w section key) (r : ℕ) (report' : List ℕ) where
  pub find_accepted : (i : ℕ) → a ≡ Ok i → Replies 0 i 0 0 0 report r report' → ReportsFind b which section key report r report'
  find_accepted i known p =
      find_told b which section key report h w asked a e r report' (replied number_told number_of place_of i report h i 0 0 0 refl a known r report' p)

  pub find_refused : (x : Error) → a ≡ Err x → (number place : ℕ) → number ≡ number_of x → place ≡ place_of x
      → Replies number place 0 0 0 report r report' → ReportsFind b which section key report r report'
  find_refused x known number place i j p =
      find_told b which section key report h w asked a e r report'
      (replied_refusal number_told number_of place_of x (lookup_number x) report h a known number place i j r report' p)

module _ (b : Lent) (i : ℕ) (report : List ℕ) (h : 4 ≤ length report) (a : Result declared.Part Error) (e : value_means a ≡ part_in b i) (r : ℕ) (report' : List ℕ) where
  module _ (v : declared.Part) (known : a ≡ Ok v) (p : Replies 0 v.start v.length 0 0 report r report') where
    pub check_accepted : ReportsValueCheck b i report r report'
    check_accepted = check_told b i report h a e r report' (replied place_told number_of place_of v report h v.start v.length 0 0 refl a known r report' p)

    pub value_accepted : ReportsValue b i report r report'
    value_accepted =
        value_told b i report h a e v (rw known) r report'
        (replied place_told number_of place_of v report h v.start v.length 0 0 refl (Ok v) refl r report' p)

  module _ (x : Error) (known : a ≡ Err x) where
    pub check_refused : (number place : ℕ) → number ≡ number_of x → place ≡ place_of x → Replies number place 0 0 0 report r report' → ReportsValueCheck b i report r report'
    check_refused number place k j p =
        check_told b i report h a e r report' (replied_refusal place_told number_of place_of x (lookup_number x) report h a known number place k j r report' p)

    pub value_refused : Replies 0 0 0 0 0 report r report' → ReportsValue b i report r report'
    value_refused p =
        value_told b i report h a e (record { start = 0; length = 0 }) (rw known) r report'
        (replied place_told number_of place_of (record { start = 0; length = 0 }) report h 0 0 0 0 refl (Ok (record { start = 0; length = 0 })) refl r report' p)
