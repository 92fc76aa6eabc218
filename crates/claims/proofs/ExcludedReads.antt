-- The calls of `read` on two files: the definitions compute, and the promise hands the outcome on.
use Rattle.std.specs.Prelude.{Result}
use mathlib.Core.Path.{◌≡◌, sym, ap, ◌∙◌}
use Prim.Native.Nat.{ℕ}
use native.Mathlib.Omega.{arith}
use lib.ListN.{length}
use Rattle.lines.specs.Bytes.{Bytes}
use Rattle.lines.specs.Text.{bytes}
use Rattle.lines.specs.Answers.{Outcome, accepted, refused}
use Rattle.table.specs.Tables.{Table, names, entries, verdict}
use Rattle.table.specs.Contents.{text_of, records_from}
use Rattle.table.specs.Answers.{read_means, counted, text_after, sections_after, entries_after, read_in}
use Rattle.table.specs.declared.error.Error.{Error}
use Rattle.table.specs.declared.state.Counts.{Counts}
use Rattle.table.proofs.Laws.{enough_space_decides}
use Rattle.claims.specs.ReadCalls.{ReadCall}
use Rattle.claims.specs.ExcludedReads.{ReadsNothing, two_sections, ReadsTwo, NoOneAnswer, CountsOfTable, RefusalOfFile}

module _ (f : Bytes) (r : Result Counts Error) (c : ReadCall f r) where
  decided : read_in (length c.text) (length c.sections) (length c.entries) f ≡ verdict f
  decided = enough_space_decides _ _ _ f c.text_size c.sections_size c.entries_size

  answered : (o : Outcome Table) → verdict f ≡ o → read_means r ≡ counted o
  answered o e = c.promise.answer ∙ ap counted (decided ∙ e)

pub counts_of_table : CountsOfTable
counts_of_table f t r e c = answered f r c _ e

pub refusal_of_file : RefusalOfFile
refusal_of_file f n p r e c =
    let o = decided f r c ∙ e in
    record {
      answer = answered f r c _ e;
      text_kept = c.promise.left.new_text ∙ ap (λ (x : Outcome Table). text_after x c.text) o;
      sections_kept = c.promise.left.new_sections ∙ ap (λ (x : Outcome Table). sections_after x c.sections) o;
      entries_kept = c.promise.left.new_entries ∙ ap (λ (x : Outcome Table). entries_after x c.entries) o;
    }

pub reads_nothing : ReadsNothing
unfolding verdict text_of names entries
reads_nothing r c = c.promise.answer ∙ ap counted (decided (bytes "") r c)

pub reads_two : ReadsTwo
unfolding verdict text_of records_from names entries
reads_two r c =
    let o = decided two_sections r c in
    record {
      answer = c.promise.answer ∙ ap counted o;
      new_text = c.promise.left.new_text ∙ ap (λ (x : Outcome Table). text_after x c.text) o;
      new_sections = c.promise.left.new_sections ∙ ap (λ (x : Outcome Table). sections_after x c.sections) o;
      new_entries = c.promise.left.new_entries ∙ ap (λ (x : Outcome Table). entries_after x c.entries) o;
    }

pub no_one_answer : NoOneAnswer
no_one_answer r c d =
    let z : ◌≡◌ {A = ℕ} 0 5 = ap size (sym (reads_nothing r c) ∙ (reads_two r d).answer) in
    omega arith
  where
    size : Outcome Counts → ℕ
    size (accepted k) = k.text
    size (refused n p) = 0
