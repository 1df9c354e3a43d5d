use Rattle.hider.proofs.passing.passed_in_steps.Goals as goal

pub returns-then-is_seen : goal.returns-then-is_seen
returns-then-is_seen c = λ v i one_sided flip held stays. c.passed_by.ensures v i one_sided flip held
