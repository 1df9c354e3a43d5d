use Rattle.hider.proofs.moving_box.MovingBox.around.Goals as goal

pub returns-clause-opening : goal.returns-clause-opening
returns-clause-opening c = λ n d l a. (c.low_of.ensures n d l a, c.high_of.ensures n d l a)

pub returns-clause-closing : goal.returns-clause-closing
returns-clause-closing c = λ n d l a. (c.low_of-2.ensures n d l a, c.high_of-2.ensures n d l a)
