use Rattle.std.proofs.Common.{subst, ℕ, List, map, Some}
use Rattle.outside.specs.Frames.{Picture, whole, Adds}
use Rattle.command_line.specs.declared.command.Action.TheVariants.{Render, Check, Part}
use Rattle.command_line.specs.Command.{OnScene, scene_view}
use Rattle.render.specs.Answers.{accepted_in, EndsSome}
use Rattle.render.specs.Parts.{parts_of_frames, task_of}
use Rattle.render.proofs.Obeying.{obeys-refused, obeys-missing, obeys-check, obeys-drawn, obeys-unwritten, obeys-out-of-memory, obeys-entries, obeys-entries-unwritten, obeys-entries-out-of-memory, accepted-kind, entries-told, loaded}
use Rattle.render.proofs.program.obeyed.Goals as goal

pub returns-in-Err-clause-course : goal.returns-in-Err-clause-course
returns-in-Err-clause-course g c =
    obeys-refused (scene_view c.args.command.now) (g.L.Library.held c.args.library.now) c.in-Err.refusal _ _ _ c.in-Err.ensures.loads

pub returns-in-Ok-None-clause-course : goal.returns-in-Ok-None-clause-course
returns-in-Ok-None-clause-course g c =
    obeys-missing (scene_view c.args.command.now) (g.L.Library.held c.args.library.now) c.in-Ok-None.field-0 _ _ _ c.in-Ok-None.field-0-is c.in-Ok-None.ensures.loads

pub returns-in-Check-clause-course : goal.returns-in-Check-clause-course
returns-in-Check-clause-course g c =
    let command = scene_view c.args.command.now in
    let held = g.L.Library.held c.args.library.now in
    let a = accepted_in c.in-Ok-Some.loaded.accepted in
    obeys-check command held a _ _ _ c.in-Check.is (loaded command held Check c.in-Ok-Some.field-0 c.in-Ok-Some.loaded c.in-Ok-Some.field-0-is c.in-Check.is c.in-Ok-Some.ensures.loads)

pub returns-in-Ok-clause-course : goal.returns-in-Ok-clause-course
returns-in-Ok-clause-course g c =
    let command = scene_view c.args.command.now in
    let held = g.L.Library.held c.args.library.now in
    let a = accepted_in c.in-Ok-Some.loaded.accepted in
    obeys-drawn command held a _ _ _ _ _ _ c.in-Render.is
    (loaded command held Render c.in-Ok-Some.field-0 c.in-Ok-Some.loaded c.in-Ok-Some.field-0-is c.in-Render.is c.in-Ok-Some.ensures.loads)
    c.in-Ok.ensures.sink.ok c.in-Ok.ensures.says

pub returns-in-Err-WriteFault-clause-course : goal.returns-in-Err-WriteFault-clause-course
returns-in-Err-WriteFault-clause-course g c =
    let command = scene_view c.args.command.now in
    let held = g.L.Library.held c.args.library.now in
    let a = accepted_in c.in-Ok-Some.loaded.accepted in
    obeys-unwritten command held a c.in-Err-WriteFault.field-0 _ _ _ _ _ _ c.in-Render.is c.in-Err-WriteFault.field-0-is
    (loaded command held Render c.in-Ok-Some.field-0 c.in-Ok-Some.loaded c.in-Ok-Some.field-0-is c.in-Render.is c.in-Ok-Some.ensures.loads)
    c.in-Err-WriteFault.ensures.sink.err

pub returns-in-Render-clause-course : goal.returns-in-Render-clause-course
returns-in-Render-clause-course g c =
    let command = scene_view c.args.command.now in
    let held = g.L.Library.held c.args.library.now in
    let a = accepted_in c.in-Ok-Some.loaded.accepted in
    obeys-out-of-memory command held a c.in-Err-NoMemory.field-0 _ _ _ _ _ _ c.in-Render.is
    (loaded command held Render c.in-Ok-Some.field-0 c.in-Ok-Some.loaded c.in-Ok-Some.field-0-is c.in-Render.is c.in-Ok-Some.ensures.loads)
    c.in-Err-NoMemory.ensures.sink.err

pub returns-in-Ok-write_parts-clause-course : goal.returns-in-Ok-write_parts-clause-course
returns-in-Ok-write_parts-clause-course g c =
    let t = scene_view c.args.command.now in
    let held = g.L.Library.held c.args.library.now in
    let l = c.in-Ok-Some.loaded in
    let entries : List ℕ → List Picture = λ text. parts_of_frames (task_of c.in-Part.part c.in-Part.count c.args.command.now.options text) (accepted_in l.accepted) in
    let x = g.O.FrameSink.written c.args.frames.now in
    let y = g.O.FrameSink.written c.write_parts.new.sink in
    obeys-entries (Some (OnScene t)) held (entries l.text.items) x y _ _
    (entries-told t held (entries l.text.items) (loaded t held (Part c.in-Part.part c.in-Part.count) c.in-Ok-Some.field-0 l c.in-Ok-Some.field-0-is c.in-Part.is c.in-Ok-Some.ensures.loads))
    (accepted-kind t (Part c.in-Part.part c.in-Part.count) l.text.items (accepted_in l.accepted) c.in-Part.is)
    (subst (λ (b : List ℕ). Adds (map whole (entries b)) x y) c.deref.ensures.value c.in-Ok-write_parts.ensures.ok)

pub returns-in-Err-WriteFault-write_parts-clause-course : goal.returns-in-Err-WriteFault-write_parts-clause-course
returns-in-Err-WriteFault-write_parts-clause-course g c =
    let t = scene_view c.args.command.now in
    let held = g.L.Library.held c.args.library.now in
    let l = c.in-Ok-Some.loaded in
    let entries : List ℕ → List Picture = λ text. parts_of_frames (task_of c.in-Part.part c.in-Part.count c.args.command.now.options text) (accepted_in l.accepted) in
    let x = g.O.FrameSink.written c.args.frames.now in
    let y = g.O.FrameSink.written c.write_parts.new.sink in
    obeys-entries-unwritten t held (entries l.text.items) x y _ _
    (entries-told t held (entries l.text.items) (loaded t held (Part c.in-Part.part c.in-Part.count) c.in-Ok-Some.field-0 l c.in-Ok-Some.field-0-is c.in-Part.is c.in-Ok-Some.ensures.loads))
    (accepted-kind t (Part c.in-Part.part c.in-Part.count) l.text.items (accepted_in l.accepted) c.in-Part.is)
    (subst (λ (b : List ℕ). EndsSome (entries b) x y) c.deref.ensures.value c.in-Err-WriteFault-write_parts.ensures.err)

pub returns-clause-course : goal.returns-clause-course
returns-clause-course g c =
    let t = scene_view c.args.command.now in
    let held = g.L.Library.held c.args.library.now in
    let l = c.in-Ok-Some.loaded in
    let entries : List ℕ → List Picture = λ text. parts_of_frames (task_of c.in-Part.part c.in-Part.count c.args.command.now.options text) (accepted_in l.accepted) in
    let x = g.O.FrameSink.written c.args.frames.now in
    let y = g.O.FrameSink.written c.write_parts.new.sink in
    obeys-entries-out-of-memory t held (entries l.text.items) x y _ _
    (entries-told t held (entries l.text.items) (loaded t held (Part c.in-Part.part c.in-Part.count) c.in-Ok-Some.field-0 l c.in-Ok-Some.field-0-is c.in-Part.is c.in-Ok-Some.ensures.loads))
    (accepted-kind t (Part c.in-Part.part c.in-Part.count) l.text.items (accepted_in l.accepted) c.in-Part.is)
    (subst (λ (b : List ℕ). EndsSome (entries b) x y) c.deref.ensures.value c.in-Err-NoMemory-write_parts.ensures.err)
