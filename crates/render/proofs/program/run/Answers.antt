use Rattle.command_line.specs.Texts.{texts}
use Rattle.command_line.specs.Command.{command_of}
use Rattle.render.proofs.Completing.{completes-told, refused-told}
use Rattle.render.proofs.Left.{leaves-told}
use Rattle.render.proofs.Obeying.{course, course-status, course-written, course-done, accepted-told}
use Rattle.render.proofs.program.run.Goals as goal

pub returns-clause-accepted : goal.returns-clause-accepted
returns-clause-accepted g c = λ zero.
    accepted-told (texts c.args.words.now) (g.L.Library.held c.args.library.now) c.answered-answer.result.0 c.note-note.result c.status.result _ _ _ _ _ _
    c.answered-answer.ensures.course c.status.ensures.told c.status.ensures.untold c.status.ensures.fault zero

pub returns-clause-done : goal.returns-clause-done
returns-clause-done g c = λ zero.
    course-done (texts c.args.words.now) (g.L.Library.held c.args.library.now) c.status.result _ _ _ _ _ _
    (course (texts c.args.words.now) (g.L.Library.held c.args.library.now) c.answered-answer.result.0 c.answered-answer.result.1.now c.note-note.result c.status.result _ _ _ _ _ _ _ _
    c.answered-answer.ensures.course c.answered-answer.ensures.named c.note-note.ensures.line c.note-note.ensures.done c.status.ensures.told c.status.ensures.untold c.status.ensures.fault c.tell.ensures) zero

pub returns-clause-left : goal.returns-clause-left
returns-clause-left g c =
    leaves-told (command_of (texts c.args.words.now)) (g.L.Library.held c.args.library.now) c.answered-answer.result.0 _ _ _ _ _ _ c.answered-answer.ensures.course

pub returns-clause-verdict : goal.returns-clause-verdict
returns-clause-verdict g c = λ few.
    course-status (texts c.args.words.now) (g.L.Library.held c.args.library.now) c.status.result _ _ _ _ _ _
    (course (texts c.args.words.now) (g.L.Library.held c.args.library.now) c.answered-answer.result.0 c.answered-answer.result.1.now c.note-note.result c.status.result _ _ _ _ _ _ _ _
    c.answered-answer.ensures.course c.answered-answer.ensures.named c.note-note.ensures.line c.note-note.ensures.done c.status.ensures.told c.status.ensures.untold c.status.ensures.fault c.tell.ensures) few

pub returns-clause-write_accepted : goal.returns-clause-write_accepted
returns-clause-write_accepted g c = λ eight.
    course-written (texts c.args.words.now) (g.L.Library.held c.args.library.now) c.status.result _ _ _ _ _ _
    (course (texts c.args.words.now) (g.L.Library.held c.args.library.now) c.answered-answer.result.0 c.answered-answer.result.1.now c.note-note.result c.status.result _ _ _ _ _ _ _ _
    c.answered-answer.ensures.course c.answered-answer.ensures.named c.note-note.ensures.line c.note-note.ensures.done c.status.ensures.told c.status.ensures.untold c.status.ensures.fault c.tell.ensures) eight

pub returns-clause-complete : goal.returns-clause-complete
returns-clause-complete g c = λ read written.
    let o = c.answered-answer.ensures.course in
    completes-told (command_of (texts c.args.words.now)) (g.L.Library.held c.args.library.now) o.verdict _ c.answered-answer.result.0 c.status.result
    o.known o.is_of c.status.ensures.number (λ e. read (c.answered-answer.ensures.library.read e)) (λ e. written (c.answered-answer.ensures.sink.failed e))

pub returns-clause-complete_refused : goal.returns-clause-complete_refused
returns-clause-complete_refused g c = λ read.
    let o = c.answered-answer.ensures.course in
    refused-told (command_of (texts c.args.words.now)) (g.L.Library.held c.args.library.now) o.verdict _ c.answered-answer.result.0 c.status.result
    o.known o.is_of c.status.ensures.number (λ e. read (c.answered-answer.ensures.library.read e))

pub returns-clause-course : goal.returns-clause-course
returns-clause-course g c =
    course (texts c.args.words.now) (g.L.Library.held c.args.library.now) c.answered-answer.result.0 c.answered-answer.result.1.now c.note-note.result c.status.result _ _ _ _ _ _ _ _
    c.answered-answer.ensures.course c.answered-answer.ensures.named c.note-note.ensures.line c.note-note.ensures.done c.status.ensures.told c.status.ensures.untold c.status.ensures.fault c.tell.ensures
