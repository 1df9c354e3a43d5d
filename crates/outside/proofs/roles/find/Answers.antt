-- Role by role: what lies behind the role that the loop stands at, and what it says of the next span.
use Rattle.std.proofs.Common.{◌≡◌, ◌∷◌, suc, ap, sym, ◌∙◌, drop, arith, add-one, drop-cons}
use Rattle.std.specs.Prelude.{slice_get}
use Rattle.std.proofs.Math.ListN.{drop_of_length-le}
use Rattle.outside.specs.Roles.{longer, spans_in}
use Rattle.outside.specs.declared.roles.Role.TheVariants.{Name, Picture, End}
use Rattle.outside.proofs.Coding.{step-name, step-picture, step-end, sum_of-next, none-behind}
use Rattle.outside.proofs.roles.find.Goals as goal
use Rattle.outside.proofs.roles.find.Goals.{in-Name, in-Picture, in-End+else-before-n}

pub returns-then-before-n-clause-span : goal.returns-then-before-n-clause-span
returns-then-before-n-clause-span c =
    let l = c.loop-role in
    let roles = c.args.roles.now in
    let at : drop l.role-index roles ≡ End ∷ drop (suc l.role-index) roles = drop-cons roles l.role-index Name c.loop-role-test.true ∙ ap (λ r. r ∷ drop (suc l.role-index) roles) c.in-End.is in
    let next = step-end (spans_in roles) (drop l.role-index roles) (drop (suc l.role-index) roles) l.before l.span.name l.span.bytes l.invariant.rest at in
    sym next.found ∙ ap (slice_get (spans_in roles)) c.if-before-n.true

pub loop-role-preserved : goal.loop-role-preserved
loop-role-preserved c =
    let l = c.loop-role in
    let roles = c.args.roles.now in
    let rest = drop (suc l.role-index) roles in
    let cons = drop-cons roles l.role-index Name c.loop-role-test.true in
    elim c.match-role.branch [
      | in-Name w ↦
          let at : drop l.role-index roles ≡ Name ∷ rest = cons ∙ ap (λ r. r ∷ rest) w.in-Name.is in
          let more = step-name (spans_in roles) (drop l.role-index roles) rest l.before l.span.name l.span.bytes l.invariant.rest at in
          rw (w.before-is, w.start-is, w.span-is, add-one l.role-index) (record { rest = more; taken = l.invariant.taken; below = l.invariant.below; counted = omega (arith, l.invariant.counted) })
      | in-Picture w ↦
          let at : drop l.role-index roles ≡ Picture ∷ rest = cons ∙ ap (λ r. r ∷ rest) w.in-Picture.is in
          let more = step-picture (spans_in roles) (drop l.role-index roles) rest l.before l.span.name l.span.bytes l.invariant.rest at in
          rw (w.before-is, w.start-is, w.span-is, add-one l.role-index) (record { rest = more; taken = l.invariant.taken; below = l.invariant.below; counted = omega (arith, l.invariant.counted) })
      | in-End+else-before-n w ↦
          let at : drop l.role-index roles ≡ End ∷ rest = cons ∙ ap (λ r. r ∷ rest) w.in-End.is in
          let next = step-end (spans_in roles) (drop l.role-index roles) rest l.before l.span.name l.span.bytes l.invariant.rest at in
          let sum = sum_of-next (spans_in roles) (longer 0 0 (spans_in rest)) l.before (record { name = l.span.name; bytes = l.span.bytes }) next in
          rw (w.before-is, w.start-is, w.span-is, add-one l.role-index, add-one l.before) (record { rest = next.behind; taken = omega (arith, sum, l.invariant.taken); below = omega (arith, l.invariant.below, w.if-before-n.false); counted = omega (arith, l.invariant.counted) })
    ]

pub returns-clause-span : goal.returns-clause-span
returns-clause-span c =
    let l = c.loop-role in
    let end = ap (λ rs. longer l.span.name l.span.bytes (spans_in rs)) (drop_of_length-le c.args.roles.now (omega (arith, c.loop-role-test.false))) in
    (none-behind (spans_in c.args.roles.now) l.before c.args.n (l.invariant.rest ∙ end) l.invariant.below).0

pub returns-clause-start : goal.returns-clause-start
returns-clause-start c =
    let l = c.loop-role in
    let end = ap (λ rs. longer l.span.name l.span.bytes (spans_in rs)) (drop_of_length-le c.args.roles.now (omega (arith, c.loop-role-test.false))) in
    l.invariant.taken ∙ (none-behind (spans_in c.args.roles.now) l.before c.args.n (l.invariant.rest ∙ end) l.invariant.below).1
