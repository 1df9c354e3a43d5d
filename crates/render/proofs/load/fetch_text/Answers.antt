use Rattle.render.proofs.Fetched.{whole_scene, long_scene}
use Rattle.render.proofs.load.fetch_text.Goals as goal

pub returns-in-Whole-clause-gives : goal.returns-in-Whole-clause-gives
returns-in-Whole-clause-gives g c =
    whole_scene c.fetch.result (g.L.Library.held c.args.library.now) c.args.name.now _ c.fetch.new.into.items c.in-Whole.is c.new-bytes.ensures.items c.fetch.ensures.bytes

pub returns-in-TooLong-clause-gives : goal.returns-in-TooLong-clause-gives
returns-in-TooLong-clause-gives g c =
    long_scene c.fetch.result (g.L.Library.held c.args.library.now) c.args.name.now _ _ c.in_scene.result c.in-TooLong.is c.fetch.ensures.bytes c.in_scene.ensures.because
