use Rattle.std.proofs.Common.{◌≡◌, true, false}
use Rattle.std.proofs.Common.{sym, ap, ◌∙◌}
use Rattle.std.specs.Str.{bytes_eq}
use Rattle.std.specs.String.{string_bytes}
use Rattle.outside.proofs.Lookups.{get-same, get-other, get-none}
use Rattle.std.specs.FinMap as finite
use Rattle.std.specs.VecDeque.Iter.{deque_iter_rest}
use Rattle.outside.specs.FilesFrom.{files_from}
use Rattle.outside.proofs.memory_library.find.Goals as goal

pub returns-then-eq : goal.returns-then-eq
returns-then-eq c =
    let e : true ≡ bytes_eq (string_bytes c.in-Some.file.now.name) c.args.name.now = cc in
    sym (c.loop-file.invariant ∙ ap (λ fs. finite.get (files_from fs) c.args.name.now) c.in-Some.ensures.steps
    ∙ get-same c.in-Some.file.now (deque_iter_rest c.next.new.self) c.args.name.now e)

pub loop-file-preserved : goal.loop-file-preserved
loop-file-preserved c =
    let e : false ≡ bytes_eq (string_bytes c.in-Some.file.now.name) c.args.name.now = cc in
    c.loop-file.invariant ∙ ap (λ fs. finite.get (files_from fs) c.args.name.now) c.in-Some.ensures.steps
    ∙ get-other c.in-Some.file.now (deque_iter_rest c.next.new.self) c.args.name.now e

pub returns : goal.returns
returns c = sym (c.loop-file.invariant ∙ get-none (deque_iter_rest c.loop-file.file-iterator) c.args.name.now c.in-None.ensures.steps.0)
