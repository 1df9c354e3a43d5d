use Rattle.render.proofs.StockFlat as flat
use Rattle.render.proofs.laws.stock_constant_law.Goals as goal

pub returns : goal.returns
returns c = flat.stock_constant_law
