-- The bench cases: the definitions compute to what the rules say.
use mathlib.Core.Path.{refl}
use Rattle.table.specs.Tables.{verdict}
use Rattle.items.specs.Split.{split_of}
use Rattle.values.specs.Spans.{span_of}
use Rattle.normal_text.specs.Sections.{sections_of}
use Rattle.normal_text.specs.NormalText.{normal_text}
use Rattle.claims.specs.Bench.{BenchHolds}

pub bench_holds : BenchHolds
unfolding verdict sections_of normal_text split_of span_of
bench_holds =
    (refl, (refl, (refl, (refl, (refl, (refl, (refl, (refl, (refl, (refl, (refl, (refl, (refl, (refl, (refl, (refl, (refl, tt)))))))))))))))))
