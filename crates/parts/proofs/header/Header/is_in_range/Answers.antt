use Rattle.std.proofs.Common.{◌∙◌, sym}
use Rattle.std.proofs.lemmas.Bool.{false≢true}
use Rattle.parts.proofs.header.Header.is_in_range.Goals as goal
use Rattle.parts.proofs.header.Header.is_in_range.Goals.{then-is_between, else-is_between, then-is_between-2, else-is_between-2}

pub returns-then-is_between-3 : goal.returns-then-is_between-3
returns-then-is_between-3 c =
    elim c.if-is_between-2.branch [
      | then-is_between-2 w ↦ elim c.if-is_between.branch [
        | then-is_between v ↦
            let wide = c.is_between.ensures.0 v.if-is_between.true in
            let high = v.is_between-then-is_between.ensures.0 (sym v.value-is ∙ w.if-is_between-2.true) in
            let one = w.is_between-then-is_between-2.ensures.0 (sym w.value-is ∙ c.if-is_between-3.true) in
            let last = c.is_between-then-is_between-3.ensures in (
              λ e. (let side = last.0 e in record { some_wide = wide.0; wide = wide.1; some_high = high.0; high = high.1; some_one = one.0; one = one.1; some_side = side.0; side = side.1; tag = c.requires }),
              λ k. last.1 (k.some_side, k.side),
            )
        | else-is_between v ↦ absurd (false≢true (sym v.if-is_between.false ∙ sym v.value-is ∙ w.if-is_between-2.true))
      ]
      | else-is_between-2 w ↦ absurd (false≢true (sym w.if-is_between-2.false ∙ sym w.value-is ∙ c.if-is_between-3.true))
    ]
