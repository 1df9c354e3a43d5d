use Rattle.std.proofs.Common.{arith, ap, length, ◌≡◌, ◌∷◌, [], ◌++◌, ◌≤◌, ◌+◌, sym, ◌∙◌, subst}
use Rattle.rib_lex.specs.Found.{found_in, IsWithin}
use Rattle.rib_lex.specs.Tokens.{tokens_of, tokens_from, with_front, token}
use Rattle.rib_lex.specs.declared.found.Found.TheVariants.{Blank, Whole}
use Rattle.rib_lex.proofs.Steps.{go-blank, go-whole}
use Rattle.rib_lex.proofs.lex.tokens.Goals as goal
use Rattle.rib_lex.proofs.lex.tokens.Goals.{in-Blank, in-Whole+in_ok-push-in-Whole}

pub loop-rest-preserved : goal.loop-rest-preserved
loop-rest-preserved c =
    let lines : c.loop-rest.line + c.line_feed_count-line.result + length c.split_at.result.1.now ≤ 1 + length c.args.bytes.now =
    omega (arith, c.loop-rest.invariant.lines, c.line_feed_count-line.ensures.within, c.split_at.ensures.front_len, c.split_at.ensures.back_len) in
    elim c.match-branch-2.branch [
      | in-Blank w ↦
          let is = w.in-Blank.is ∙ ap (λ n. Blank n) (sym w.len-is) in
          let found : found_in c.loop-rest.rest.now ≡ Blank c.match-branch-2.len = sym c.in_ok-len.ensures.found ∙ is in
          let within : IsWithin (Blank c.match-branch-2.len) (length c.loop-rest.rest.now) =
          subst (λ f. IsWithin f (length c.loop-rest.rest.now)) is c.in_ok-len.ensures.within in
          let same : with_front c.loop-rest.tokens.items (tokens_from 0 (c.loop-rest.line + c.line_feed_count-line.result) c.split_at.result.1.now) ≡ tokens_of c.args.bytes.now =
          go-blank c.loop-rest.tokens.items c.match-branch-2.len c.loop-rest.line c.line_feed_count-line.result c.loop-rest.rest.now
          c.split_at.result.1.now c.split_at.result.0.now (tokens_of c.args.bytes.now) within.0 within.1 found
          c.split_at.ensures.front c.split_at.ensures.back c.line_feed_count-line.ensures.count c.loop-rest.invariant.same in
          record { same = rw w.tokens-is same; starts = omega (arith, c.loop-rest.invariant.starts); lines = lines }
      | in-Whole+in_ok-push-in-Whole w ↦
          let kind = w.in-Whole.kind in
          let is = w.in-Whole.is ∙ ap (λ n. Whole kind n) (sym w.len-is) in
          let found : found_in c.loop-rest.rest.now ≡ Whole kind c.match-branch-2.len = sym c.in_ok-len.ensures.found ∙ is in
          let within : IsWithin (Whole kind c.match-branch-2.len) (length c.loop-rest.rest.now) =
          subst (λ f. IsWithin f (length c.loop-rest.rest.now)) is c.in_ok-len.ensures.within in
          let same : with_front (c.loop-rest.tokens.items ++ token kind c.loop-rest.line ∷ []) (tokens_from 0 (c.loop-rest.line + c.line_feed_count-line.result) c.split_at.result.1.now) ≡ tokens_of c.args.bytes.now =
          go-whole c.loop-rest.tokens.items kind c.match-branch-2.len c.loop-rest.line c.line_feed_count-line.result c.loop-rest.rest.now
          c.split_at.result.1.now c.split_at.result.0.now (tokens_of c.args.bytes.now) within.0 within.1 found
          c.split_at.ensures.front c.split_at.ensures.back c.line_feed_count-line.ensures.count c.loop-rest.invariant.same in
          record { same = rw (w.tokens-is, w.in_ok-push-in-Whole.ensures.items) same; starts = omega (arith, c.loop-rest.invariant.starts); lines = lines }
    ]
