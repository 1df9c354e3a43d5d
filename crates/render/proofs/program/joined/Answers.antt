use Rattle.std.proofs.Common.{refl, subst, ℕ, List, [], ◌∷◌, Some}
use Rattle.outside.specs.Frames.{whole, Adds, AddsPart}
use Rattle.command_line.specs.Command.{Join}
use Rattle.render.proofs.Obeying.{obeys-entries, obeys-picture-unwritten, obeys-unread, obeys-nothing, joins-told}
use Rattle.render.proofs.program.joined.Goals as goal

pub returns-in-Ok-put_picture-clause-course : goal.returns-in-Ok-put_picture-clause-course
returns-in-Ok-put_picture-clause-course g c = λ lines n.
    let held = g.L.Library.held c.args.library.now in
    let name = c.args.command.name.now in
    let count = c.args.command.count in
    let bytes = c.in-Ok.picture.items in
    let x = g.O.FrameSink.written c.args.frames.now in
    let y = g.O.FrameSink.written c.put_picture.new.frames in
    obeys-entries (Some (Join name count)) held (record { name = name; bytes = bytes } ∷ []) x y lines n (joins-told held name count bytes c.in-Ok.ensures.gives) (bytes, refl)
    (subst (λ (b : List ℕ). Adds (whole (record { name = name; bytes = b }) ∷ []) x y) c.deref.ensures.value c.in-Ok-put_picture.ensures.ok)

pub returns-in-Ok-clause-course : goal.returns-in-Ok-clause-course
returns-in-Ok-clause-course g c = λ lines n.
    let held = g.L.Library.held c.args.library.now in
    let name = c.args.command.name.now in
    let count = c.args.command.count in
    let bytes = c.in-Ok.picture.items in
    let x = g.O.FrameSink.written c.args.frames.now in
    let y = g.O.FrameSink.written c.put_picture.new.frames in
    obeys-picture-unwritten held name count bytes x y lines n c.in-Ok.ensures.gives
    (subst (λ (b : List ℕ). AddsPart (record { name = name; bytes = b }) x y) c.deref.ensures.value c.in-Err.ensures.err)

pub returns-in-Err-ReadFault-clause-course : goal.returns-in-Err-ReadFault-clause-course
returns-in-Err-ReadFault-clause-course g c = λ lines n.
    obeys-unread (Some (Join c.args.command.name.now c.args.command.count)) (g.L.Library.held c.args.library.now) (g.O.FrameSink.written c.args.frames.now) lines n

pub returns-clause-course : goal.returns-clause-course
returns-clause-course g c = λ lines n.
    obeys-nothing (Some (Join c.args.command.name.now c.args.command.count)) (g.L.Library.held c.args.library.now) (g.O.FrameSink.written c.args.frames.now) lines n
