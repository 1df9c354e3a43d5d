use Rattle.sl_ast.proofs.NodeTypes.{many_operands}
use Rattle.sl_ast.proofs.operands.Operands.of.Goals as goal

-- src/node_types.rt:28:5
pub returns-in_default : goal.returns-in_default
returns-in_default c = many_operands c.args.args.now c.in_default.len_at_least
