use Rattle.std.proofs.Common.{◌≡◌, Some, None, ap, sym, ◌∙◌, subst}
use Rattle.outside.specs.FilesFrom.{files_from}
use Rattle.outside.specs.Library.{held_as}
use Rattle.outside.specs.Shelf.{Appended}
use Rattle.outside.proofs.Fetching.{fetches-appended, fetches-missing}
use Rattle.outside.proofs.memory_library.MemoryLibraryLibrary.fetch.Goals as goal
use Rattle.outside.proofs.memory_library.MemoryLibraryLibrary.fetch.Goals.{in-None, in-Some}

pub returns-clause-bytes : goal.returns-clause-bytes
returns-clause-bytes c =
    let files : files_from c.self.inside.files.items ≡ c.args.self.now.files = ap (λ h. h.files) c.self.view_is in
    elim c.match-find.branch [
      | in-None w ↦
          let missing : held_as c.args.self.now.files c.args.name.now ≡ None = ap (λ fs. held_as fs c.args.name.now) (sym files) ∙ sym w.in-None.ensures in
          let old : c.match-find.into.items ≡ c.args.into.now.items = ap (λ v. v.items) w.into-is in
          rw (w.result-is, old) (fetches-missing c.args.limit c.args.self.now.files c.args.name.now c.args.into.now.items missing)
      | in-Some w ↦
          let held : held_as c.args.self.now.files c.args.name.now ≡ Some w.in-Some.file.now.bytes.items = ap (λ fs. held_as fs c.args.name.now) (sym files) ∙ sym w.in-Some.ensures in
          let new : c.match-find.into.items ≡ w.append.new.into.items = ap (λ v. v.items) w.into-is in
          let bytes : w.deref.result.now ≡ w.in-Some.file.now.bytes.items = w.deref.ensures.value in
          let appended : Appended c.match-find.result c.args.limit w.in-Some.file.now.bytes.items c.args.into.now.items c.match-find.into.items =
          rw (w.result-is, new) (subst (λ b. Appended w.append.result c.args.limit b c.args.into.now.items w.append.new.into.items) bytes w.append.ensures) in
          fetches-appended c.match-find.result c.args.limit c.args.self.now.files c.args.name.now w.in-Some.file.now.bytes.items c.args.into.now.items c.match-find.into.items appended held
    ]
