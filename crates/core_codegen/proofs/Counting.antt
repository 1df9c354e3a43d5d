-- What a loop over statements has still to count.
use Rattle.std.proofs.Common.{◌≡◌, ℕ, ◌+◌, ◌<◌, ◌≤◌, List, length, get_or, drop, ap, arith}
use Rattle.sl_meaning.specs.Core as C
use Rattle.sl_meaning.specs.CoreView.{stmt_of, stmts_of}
use Rattle.sl_meaning.specs.declared.core_tree.CoreStmt.{CoreStmt}
use Rattle.core_codegen.specs.Compile.{locals, all_locals}
use Rattle.core_codegen.specs.Sizes.{stmt_size, all_size}
use Rattle.core_codegen.proofs.ValueRegisters.{next_left, nothing_left}

pub record Counting (all : List CoreStmt) (i count : ℕ) : Type 0 where
  pub left : count + all_locals (stmts_of (drop i all)) ≡ all_locals (stmts_of all)
  pub small : all_size (stmts_of (drop i all)) ≤ all_size (stmts_of all)

pub counting_init : (all : List CoreStmt) → Counting all 0 0
counting_init all = record { left = omega arith; small = omega arith }

module _ (all : List CoreStmt) (i count : ℕ) (x : CoreStmt) (o : Counting all i count) (h : i < length all) (is : x ≡ get_or all i x) where
  next_stmt : stmts_of (drop i all) ≡ C.first (stmt_of x) (stmts_of (drop (i + 1) all))
  next_stmt = ap stmts_of (next_left all i x h is)

  pub counted_small : stmt_size (stmt_of x) < all_size (stmts_of all)
  counted_small = let q = ap all_size next_stmt in let g = o.small in omega arith

  pub counted_fits : count + locals (stmt_of x) ≤ all_locals (stmts_of all)
  counted_fits = let q = ap all_locals next_stmt in let g = o.left in omega arith

  pub counting_step : (k count' : ℕ) → k ≡ locals (stmt_of x) → count' ≡ count + k → Counting all (i + 1) count'
  counting_step k count' hk hc =
      record {
        left = let q = ap all_locals next_stmt in let g = o.left in omega arith;
        small = let q = ap all_size next_stmt in let g = o.small in omega arith;
      }

pub counting_end : (all : List CoreStmt) (i count : ℕ) → Counting all i count → i ≡ length all → count ≡ all_locals (stmts_of all)
counting_end all i count o h = let n = ap all_locals (ap stmts_of (nothing_left all i h)) in let g = o.left in omega arith
