use Rattle.std.proofs.Common.{◌≡◌, ◌∙◌, ap, rules}
use Rattle.clap.specs.Simple.{app_of, is_simple}
use Rattle.clap.specs.Faults.{is_simple_and_free}
use Rattle.clap.specs.Matches.{found_of}
use Rattle.command_line.specs.Texts.{texts}
use Rattle.why_words.specs.Question.{why}
use Rattle.why_words.proofs.Questions.{given, refused, simple, free}
use Rattle.why_words.proofs.question.question_in.Goals as goal

pub returns-in-Ok-try_get_matches_from-clause-question : goal.returns-in-Ok-try_get_matches_from-clause-question
returns-in-Ok-try_get_matches_from-clause-question c =
    let m = c.in-Ok-try_get_matches_from.matches in
    let is : app_of c.in-Ok.parser ≡ why = c.in-Ok.ensures in
    let e = c.in-Ok-try_get_matches_from.ensures in
    c.question_found.ensures.question ∙ given (app_of c.in-Ok.parser) (texts c.args.words.now) (found_of m) is
    (e.matches (ap is_simple is ∙ simple)).0 (e.kinds (ap is_simple_and_free is ∙ free))

pub returns-clause-question : goal.returns-clause-question
returns-clause-question c =
    let is : app_of c.in-Ok.parser ≡ why = c.in-Ok.ensures in
    refused (app_of c.in-Ok.parser) (texts c.args.words.now) c.in-Err.error is (c.in-Err.ensures.kinds (ap is_simple_and_free is ∙ free)) (λ e. search rules)
