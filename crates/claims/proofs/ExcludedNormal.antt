-- The calls of `normal_text` on three files: the definitions compute, and the promise hands the outcome on.
use mathlib.Core.Path.{◌≡◌, sym, ap, ◌∙◌}
use Prim.Native.Nat.{ℕ}
use native.Mathlib.Omega.{arith}
use lib.ListN.{length}
use Rattle.lines.specs.Text.{bytes}
use Rattle.lines.specs.Answers.{Outcome}
use Rattle.table.specs.Tables.{Table, names, entries, verdict}
use Rattle.table.specs.Contents.{text_of, records_from}
use Rattle.table.specs.Answers.{text_after, sections_after, entries_after}
use Rattle.normal_text.specs.Sections.{sections_of}
use Rattle.normal_text.specs.NormalText.{normal_text}
use Rattle.normal_text.specs.Answers.{sized, out_after}
use Rattle.claims.specs.Demand3.{Call, left_by}
use Rattle.claims.specs.ExcludedNormal.{NormalOfNothing, commented, NoCopy, reopened, NormalOfReopened, NoFixedText}
use Rattle.claims.proofs.Demand3.{leaves_table, decided}

pub normal_of_nothing : NormalOfNothing
unfolding verdict sections_of normal_text text_of names entries
normal_of_nothing c = c.made.promise.answer ∙ ap sized (decided (bytes "") c)

-- what is left for a file is computed
left_commented : (c : Call commented) → left_by c ≡ bytes "[A]\n"
unfolding verdict sections_of normal_text
left_commented c = (leaves_table c _ (decided commented c)).text_left

pub no_copy : NoCopy
no_copy c = (
  left_commented c,
  λ e. let z : ◌≡◌ {A = ℕ} 4 7 = ap length (sym (left_commented c) ∙ e) in omega arith,
)

pub normal_of_reopened : NormalOfReopened
unfolding verdict sections_of normal_text text_of records_from names entries
normal_of_reopened c =
    let o = decided reopened c in
    let p = c.made.promise in
    record {
      answer = p.answer ∙ ap sized o;
      new_text = p.left.new_text ∙ ap (λ (x : Outcome Table). text_after x c.made.text) o;
      new_sections = p.left.new_sections ∙ ap (λ (x : Outcome Table). sections_after x c.made.sections) o;
      new_entries = p.left.new_entries ∙ ap (λ (x : Outcome Table). entries_after x c.made.entries) o;
      new_out = p.new_out ∙ ap (λ (x : Outcome Table). out_after x c.made.out) o;
    }

left_reopened : (c : Call reopened) → left_by c ≡ bytes "[A]\nK=1\nL=t\\ \n[B]\nJ=\nM=2\n"
unfolding verdict sections_of normal_text
left_reopened c = (leaves_table c _ (decided reopened c)).text_left

pub no_fixed_text : NoFixedText
no_fixed_text c d e =
    let z : ◌≡◌ {A = ℕ} 4 25 = ap length (sym (left_commented c) ∙ e ∙ left_reopened d) in omega arith
