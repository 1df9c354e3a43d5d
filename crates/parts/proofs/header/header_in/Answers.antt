use Rattle.std.proofs.Common.{◌∙◌, sym}
use Rattle.std.proofs.lemmas.Bool.{false≢true}
use Rattle.parts.proofs.Headers.{eight_from, head_fails}
use Rattle.parts.proofs.header.header_in.Goals as goal
use Rattle.parts.proofs.header.header_in.Goals.{else-reyp-eq-REYP-via-then-reyp-eq-REYP+then-art1-eq-ART1+else-is_in_range, else-reyp-eq-REYP-via-then-reyp-eq-REYP+else-art1-eq-ART1, else-reyp-eq-REYP-via-else-reyp-eq-REYP}

pub returns-else-reyp-eq-REYP : goal.returns-else-reyp-eq-REYP
returns-else-reyp-eq-REYP c =
    let a = c.word-reyp in
    let b = c.word-art1 in
    let w = c.word-width in
    let h = c.word-height in
    let o = c.word-one in
    let s = c.word-side in
    let t = c.word-tag in
    let n = c.word-count in
    let e = eight_from a.result.0 b.result.0 w.result.0 h.result.0 o.result.0 s.result.0 t.result.0 n.result.0 c.args.bytes.now a.result.1.now b.result.1.now w.result.1.now h.result.1.now o.result.1.now s.result.1.now t.result.1.now n.result.1.now
    a.ensures.value b.ensures.value w.ensures.value h.ensures.value o.ensures.value s.ensures.value t.ensures.value n.ensures.value in
    head_fails a.result.0 b.result.0 w.result.0 h.result.0 o.result.0 s.result.0 t.result.0 n.result.0 c.args.bytes.now n.result.1.now a.ensures.number b.ensures.number w.ensures.number h.ensures.number o.ensures.number s.ensures.number t.ensures.number n.ensures.number e
    (λ p q r. elim c.else-reyp-eq-REYP.branch [
      | else-reyp-eq-REYP-via-then-reyp-eq-REYP+then-art1-eq-ART1+else-is_in_range w ↦ false≢true (sym w.if-is_in_range.false ∙ w.is_in_range.ensures.1 r)
      | else-reyp-eq-REYP-via-then-reyp-eq-REYP+else-art1-eq-ART1 w ↦ w.if-art1-eq-ART1.false (sym q)
      | else-reyp-eq-REYP-via-else-reyp-eq-REYP w ↦ w.if-reyp-eq-REYP.false (sym p)
    ])
