-- The calls on a whole file.
use mathlib.Core.Path.{◌≡◌, refl, sym, ap, subst, ◌∙◌}
use Prim.Native.Nat.{ℕ, ◌≤◌, ◌<◌}
use mathlib.Core.List.{List}
use lib.ListN.{length}
use Rattle.std.specs.Prelude.{Result}
use Rattle.lines.specs.Bytes.{Bytes}
use Rattle.lines.specs.Answers.{Outcome, accepted}
use Rattle.lines.specs.Answers as file
use Rattle.lines.specs.Utf8.{longest_start}
use Rattle.lines.specs.Files.{checked_file, check_means}
use Rattle.lines.specs.declared.error.Error as lines
use Rattle.table.specs.Tables.{Table}
use Rattle.table.specs.Answers.{number_of, place_of, counted, read_means, TableLeft, read_in, Reads}
use Rattle.table.specs.declared.error.Error.{Error}
use Rattle.table.specs.declared.state.Counts.{Counts}
use Rattle.table.proofs.ReadCalls.{table_kept}
use Rattle.normal_text.specs.Answers.{sized, normal_means, out_after, normal_in, Normalizes}
use Rattle.normal_text.specs.declared.normal.Sizes.{Sizes}
use Rattle.havtsulen.specs.Reports.{outcome_of, with_report, Reports}
use Rattle.havtsulen.specs.Answers.{nothing_told, number_told, counts_told, sizes_told, ReportsWellFormedLength, ReportsCheckFile, ReportsRead, ReportsNormalText}
use Rattle.std.specs.Prelude.{Ok, Err}
use Rattle.havtsulen.specs.Steps.{Replies}
use Rattle.havtsulen.proofs.Numbers.{file_number, table_number}
use Rattle.havtsulen.proofs.Reporting.{accepts, replied, replied_refusal, with_short, with_long, short, meaning, said}

-- ---- the length of the well-formed start

module _ (text : Bytes) (report : List ℕ) where
  pub length_short : length report < 4 → ReportsWellFormedLength text report 1 report
  length_short h = short number_told _ report h (with_short report (accepted (longest_start text)) h)

  pub length_reported : 4 ≤ length report → (n : ℕ) → n ≡ longest_start text → (r : ℕ) (report' : List ℕ)
      → Reports number_told (accepted n) report r report' → ReportsWellFormedLength text report r report'
  length_reported h n e = said number_told _ _ (ap accepted e ∙ sym (with_long report (accepted (longest_start text)) h)) report

  pub length_told : 4 ≤ length report → (n : ℕ) → n ≡ longest_start text → (r : ℕ) (report' : List ℕ)
      → Replies 0 n 0 0 0 report r report' → ReportsWellFormedLength text report r report'
  length_told h n e r report' p = length_reported h n e r report' (accepts number_told (accepted n) report h r report' n refl n 0 0 0 refl p)

-- ---- the check of a file

module _ (f : Bytes) (report : List ℕ) where
  pub check_short : length report < 4 → ReportsCheckFile f report 1 report
  check_short h = short nothing_told _ report h (with_short report (checked_file f) h)

  pub check_told : 4 ≤ length report → (a : Result (Unit {0}) lines.Error) → check_means a ≡ checked_file f → (r : ℕ) (report' : List ℕ)
      → Reports nothing_told (outcome_of file.number_of file.place_of a) report r report' → ReportsCheckFile f report r report'
  check_told h a e =
      said nothing_told _ _
      (meaning file.number_of file.place_of check_means (λ x. refl) (λ x. refl) a ∙ e ∙ sym (with_long report (checked_file f) h)) report

-- ---- reading

module _ (f text : Bytes) (sections entries report : List ℕ) where
  abbrev read_outcome : Outcome Table
  read_outcome = read_in (length text) (length sections) (length entries) f

  pub read_short : length report < 4 → ReportsRead f text sections entries report 1 text sections entries report
  read_short h =
      let e = with_short report read_outcome h in
      record {
        reports = short counts_told _ report h (ap counted e);
        left = table_kept _ 1 0 e text sections entries;
      }

  -- the buffers are as the call has left them
  pub read_told : 4 ≤ length report → (a : Result Counts Error) (text' : Bytes) (sections' entries' : List ℕ)
      → Reads f text sections entries a text' sections' entries' → (r : ℕ) (report' : List ℕ)
      → Reports counts_told (outcome_of number_of place_of a) report r report' → ReportsRead f text sections entries report r text' sections' entries' report'
  read_told h a text' sections' entries' made r report' p =
      let same : read_outcome ≡ with_report report read_outcome = sym (with_long report read_outcome h) in
      record {
        reports = said counts_told _ _ (meaning number_of place_of read_means (λ x. refl) (λ x. refl) a ∙ made.answer ∙ ap counted same) report r report' p;
        left = subst (λ (o : Outcome Table). TableLeft o text sections entries text' sections' entries') same made.left;
      }

-- ---- the normal text

module _ (f text : Bytes) (sections entries : List ℕ) (out : Bytes) (report : List ℕ) where
  abbrev normal_outcome : Outcome Table
  normal_outcome = normal_in (length text) (length sections) (length entries) (length out) f

  pub normal_short : length report < 4 → ReportsNormalText f text sections entries out report 1 text sections entries out report
  normal_short h =
      let e = with_short report normal_outcome h in
      record {
        reports = short sizes_told _ report h (ap sized e);
        left = table_kept _ 1 0 e text sections entries;
        new_out = ap (λ (o : Outcome Table). out_after o out) (sym e);
      }

  -- the buffers are as the call has left them
  pub normal_told : 4 ≤ length report → (a : Result Sizes Error) (text' : Bytes) (sections' entries' : List ℕ) (out' : Bytes)
      → Normalizes f text sections entries out a text' sections' entries' out' → (r : ℕ) (report' : List ℕ)
      → Reports sizes_told (outcome_of number_of place_of a) report r report'
      → ReportsNormalText f text sections entries out report r text' sections' entries' out' report'
  normal_told h a text' sections' entries' out' made r report' p =
      let same : normal_outcome ≡ with_report report normal_outcome = sym (with_long report normal_outcome h) in
      record {
        reports = said sizes_told _ _ (meaning number_of place_of normal_means (λ x. refl) (λ x. refl) a ∙ made.answer ∙ ap sized same) report r report' p;
        left = subst (λ (o : Outcome Table). TableLeft o text sections entries text' sections' entries') same made.left;
        new_out = made.new_out ∙ ap (λ (o : Outcome Table). out_after o out) same;
      }

-- ---- the same from a reply, for what is accepted and for a refusal

module _ (f : Bytes) (report : List ℕ) (h : 4 ≤ length report) (k : Result (Unit {0}) lines.Error) (e : check_means k ≡ checked_file f) (r : ℕ) (report' : List ℕ) where
  pub check_accepted : k ≡ Ok tt → Replies 0 0 0 0 0 report r report' → ReportsCheckFile f report r report'
  check_accepted known p = check_told f report h k e r report' (replied nothing_told file.number_of file.place_of tt report h 0 0 0 0 refl k known r report' p)

  pub check_refused : (x : lines.Error) → k ≡ Err x → (number place : ℕ) → number ≡ file.number_of x → place ≡ file.place_of x
      → Replies number place 0 0 0 report r report' → ReportsCheckFile f report r report'
  check_refused x known number place i j p =
      check_told f report h k e r report' (replied_refusal nothing_told file.number_of file.place_of x (file_number x) report h k known number place i j r report' p)

module _ (f text : Bytes) (sections entries report : List ℕ) (h : 4 ≤ length report) (a : Result Counts Error) (text' : Bytes) (sections' entries' : List ℕ)
    (made : Reads f text sections entries a text' sections' entries') (r : ℕ) (report' : List ℕ) where
  pub read_accepted : (k : Counts) → a ≡ Ok k → Replies 0 k.text k.sections k.entries 0 report r report'
      → ReportsRead f text sections entries report r text' sections' entries' report'
  read_accepted k known p =
      read_told f text sections entries report h a text' sections' entries' made r report'
      (replied counts_told number_of place_of k report h k.text k.sections k.entries 0 refl a known r report' p)

  pub read_refused : (x : Error) → a ≡ Err x → (number place : ℕ) → number ≡ number_of x → place ≡ place_of x
      → Replies number place 0 0 0 report r report' → ReportsRead f text sections entries report r text' sections' entries' report'
  read_refused x known number place i j p =
      read_told f text sections entries report h a text' sections' entries' made r report'
      (replied_refusal counts_told number_of place_of x (table_number x) report h a known number place i j r report' p)

module _ (f text : Bytes) (sections entries : List ℕ) (out : Bytes) (report : List ℕ) (h : 4 ≤ length report) (a : Result Sizes Error)
    (text' : Bytes) (sections' entries' : List ℕ) (out' : Bytes) (made : Normalizes f text sections entries out a text' sections' entries' out') (r : ℕ) (report' : List ℕ) where
  pub normal_accepted : (s : Sizes) → a ≡ Ok s → Replies 0 s.length s.table.text s.table.sections s.table.entries report r report'
      → ReportsNormalText f text sections entries out report r text' sections' entries' out' report'
  normal_accepted s known p =
      normal_told f text sections entries out report h a text' sections' entries' out' made r report'
      (replied sizes_told number_of place_of s report h s.length s.table.text s.table.sections s.table.entries refl a known r report' p)

  pub normal_refused : (x : Error) → a ≡ Err x → (number place : ℕ) → number ≡ number_of x → place ≡ place_of x
      → Replies number place 0 0 0 report r report' → ReportsNormalText f text sections entries out report r text' sections' entries' out' report'
  normal_refused x known number place i j p =
      normal_told f text sections entries out report h a text' sections' entries' out' made r report'
      (replied_refusal sizes_told number_of place_of x (table_number x) report h a known number place i j r report' p)
