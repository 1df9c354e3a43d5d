-- A program within the limits is that of the file, and its tree is within them.
use Rattle.std.proofs.Common.{◌≡◌, true, Ok, Err, ap, sym, ◌∙◌}
use Rattle.std.proofs.lemmas.Bool.{cond_both}
use Rattle.sl_ast.specs.Syntax as U
use Rattle.sl_expressions.specs.declared.faults.TypeCode.TheVariants.{M8}
use Rattle.sl_expressions.specs.Found.{Found, ◌>>=◌}
use Rattle.sl_typing.specs.Functions.{Program, program}
use Rattle.sl_types.specs.Inline.{tree_of}
use Rattle.sl_types.specs.Checked.{is_within, limited, sized}

abbrev Is : Found Program → Program → Type 0
Is o p = o ≡ Ok p

abbrev pub Parted : U.Shader → Program → Found Program → Type 0
Parted s p o = (o ≡ Ok p) × (is_within (tree_of s p) ≡ true)

within_limits : (s : U.Shader) (p q : Program) → is_within (tree_of s q) ≡ true → Is (Ok q) p → Parted s p (Ok q)
within_limits s p q e is =
    let same : q ≡ p = cc is in
    (is, ap (λ x. is_within (tree_of s x)) (sym same) ∙ e)

parted : (s : U.Shader) (p : Program) (o : Found Program) → (o >>= limited s) ≡ Ok p → Parted s p o
parted s p (Err e) h = absurd (cc h)
parted s p (Ok q) h =
    cond_both (is_within (tree_of s q)) (Ok q) (Err (M8, s.line)) (λ r. r ≡ Ok p → Parted s p (Ok q)) (within_limits s p q) (λ e is. absurd (cc is)) h

pub sized_parts : (s : U.Shader) (p : Program) → sized s ≡ Ok p → Parted s p (program s)
sized_parts s p h = parted s p (program s) h
