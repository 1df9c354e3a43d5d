use Rattle.std.proofs.Common.{◌≡◌, ◌∙◌, ap, rules}
use Rattle.clap.specs.Simple.{app_of, is_simple}
use Rattle.clap.specs.Faults.{is_simple_and_free}
use Rattle.clap.specs.Matches.{found_of}
use Rattle.command_line.specs.Command.{reyes}
use Rattle.command_line.specs.Texts.{texts}
use Rattle.command_line.proofs.Commands.{given, refused, simple, free}
use Rattle.command_line.proofs.command.command_in.Goals as goal

pub returns-in-Ok-try_get_matches_from-clause-command : goal.returns-in-Ok-try_get_matches_from-clause-command
returns-in-Ok-try_get_matches_from-clause-command c =
    let m = c.in-Ok-try_get_matches_from.matches in
    let is : app_of c.in-Ok.parser ≡ reyes = c.in-Ok.ensures in
    let e = c.in-Ok-try_get_matches_from.ensures in
    c.command_found.ensures.command ∙ given (app_of c.in-Ok.parser) (texts c.args.words.now) (found_of m) is
    (e.matches (ap is_simple is ∙ simple)).0 (e.kinds (ap is_simple_and_free is ∙ free))

pub returns-clause-command : goal.returns-clause-command
returns-clause-command c =
    let is : app_of c.in-Ok.parser ≡ reyes = c.in-Ok.ensures in
    refused (app_of c.in-Ok.parser) (texts c.args.words.now) c.in-Err.error is (c.in-Err.ensures.kinds (ap is_simple_and_free is ∙ free)) (λ e. search rules)
