use Rattle.std.proofs.Common.{◌∙◌}
use Rattle.acceptance.proofs.Fetched.{whole_text, missing_text, long_text}
use Rattle.acceptance.proofs.shaders.fetch_text.Goals as goal

pub returns-in-Whole-clause-gives : goal.returns-in-Whole-clause-gives
returns-in-Whole-clause-gives g c =
    whole_text c.fetch.result (g.L.Library.held c.args.library.now) c.args.name.now c.as_str.result.now _ c.fetch.new.into c.in-Whole.is c.new-bytes.ensures.items
    c.fetch.ensures.bytes (c.as_str.ensures.value ∙ c.in_ok-file.ensures)

pub returns-in-Missing-clause-gives : goal.returns-in-Missing-clause-gives
returns-in-Missing-clause-gives g c =
    missing_text c.fetch.result (g.L.Library.held c.args.library.now) c.args.name.now c.as_str.result.now _ _ c.of_stock.result c.in-Missing.is c.fetch.ensures.bytes
    (c.as_str.ensures.value ∙ c.in_ok-file.ensures) c.of_stock.ensures.gives

pub returns-in-TooLong-clause-gives : goal.returns-in-TooLong-clause-gives
returns-in-TooLong-clause-gives g c =
    long_text c.fetch.result (g.L.Library.held c.args.library.now) c.args.name.now c.as_str.result.now _ _ c.in_shader.result c.in-TooLong.is c.fetch.ensures.bytes
    (c.as_str.ensures.value ∙ c.in_ok-file.ensures) c.in_shader.ensures.because
