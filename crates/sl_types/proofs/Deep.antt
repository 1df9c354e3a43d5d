-- How deep the tree with functions in place is, and what functions put in place.
use Rattle.std.proofs.Common.{◌≡◌, ℕ, ◌+◌, max, Bool, List, [], ◌∷◌, ◌++◌, Ok, Err, get_or, refl, sym, ap, ap₂, ◌∙◌}
use Rattle.sl_ast.specs.Typed as A
use Rattle.sl_expressions.specs.Found.{Found}
use Rattle.sl_expressions.specs.Scope.{Local, Callee, body_in}
use Rattle.sl_expressions.specs.Typed.{Expr, number, word, variable, apply, call, Exprs, none, more, Stmt, empty, leave, again, block, group, declare, start, assign, test, test_else, repeat, steps, lights, Stmts, done, first, Body}
use Rattle.sl_types.specs.Folds.{fold, fold_args, fold_stmt, fold_stmts, fold_body}
use Rattle.sl_types.specs.Extents.{Extent, absent, counting}
use Rattle.sl_types.specs.Sizes.{extents_from}
use Rattle.sl_types.specs.Inline.{Built, nothing, extents_of, count, count_args, count_stmt, count_stmts, inline, inline_args, inline_stmt, inline_stmts, built_in, built_from}
use Rattle.sl_types.proofs.Numbered.{Sound, AllSound, nothing_sound, sound_at, extent_at, numbered, numbered_stmts}

abbrev depth_in : List Built → Expr → ℕ
depth_in fs e = (fold counting (extents_of fs) e).depth

abbrev depth_all : List Built → Exprs → ℕ
depth_all fs es = (fold_args counting (extents_of fs) es).depth

abbrev depth_at : List Built → Stmt → ℕ
depth_at fs s = (fold_stmt counting (extents_of fs) s).depth

abbrev depth_rows : List Built → Stmts → ℕ
depth_rows fs ss = (fold_stmts counting (extents_of fs) ss).depth

mutual
  pub deep : (fs : List Built) → AllSound fs → (n : ℕ) (e : Expr) → A.depth (inline fs n e) ≡ depth_in fs e
  deep fs all n (number value line) = refl
  deep fs all n (word text line) = refl
  deep fs all n (variable x kind line) = refl
  deep fs all n (apply op args kind line) = ap (λ d. 1 + d) (deep_args fs all (n + 1) args)
  deep fs all n (call k args kind line) =
      let b = get_or fs k nothing in
      let m = n + 1 + count_args fs args in
      let inside : max (A.depth_stmts (b.body m)) (1 + A.depth (b.value (m + b.before + 1))) ≡ (get_or (extents_of fs) k absent).depth =
      (sound_at fs k all).depth_is m (m + b.before + 1) ∙ sym (ap (λ x. x.depth) (extent_at fs k)) in
      ap₂ (λ x y. 1 + max x y) (deep_args fs all (n + 1) args) inside

  pub deep_args : (fs : List Built) → AllSound fs → (n : ℕ) (es : Exprs) → A.depth_args (inline_args fs n es) ≡ depth_all fs es
  deep_args fs all n none = refl
  deep_args fs all n (more e rest) = ap₂ max (deep fs all n e) (deep_args fs all (n + count fs e) rest)

mutual
  pub deep_stmt : (fs : List Built) → AllSound fs → (n : ℕ) (s : Stmt) → A.depth_stmt (inline_stmt fs n s) ≡ depth_at fs s
  deep_stmt fs all n (empty line) = refl
  deep_stmt fs all n (leave line) = refl
  deep_stmt fs all n (again line) = refl
  deep_stmt fs all n (block ss line) = ap (λ d. 1 + d) (deep_stmts fs all (n + 1) ss)
  deep_stmt fs all n (group ss) = deep_stmts fs all n ss
  deep_stmt fs all n (declare uniform kind e line) = ap (λ d. 1 + d) (deep fs all (n + 1) e)
  deep_stmt fs all n (start uniform kind line) = refl
  deep_stmt fs all n (assign x operator kind e line) = ap (λ d. 1 + d) (deep fs all (n + 1) e)
  deep_stmt fs all n (test e s line) = ap₂ (λ x y. 1 + max x y) (deep fs all (n + 1) e) (deep_stmt fs all (n + 1 + count fs e) s)
  deep_stmt fs all n (test_else e s r line) =
      ap₂ (λ x y. 1 + max x y) (deep fs all (n + 1) e)
      (ap₂ max (deep_stmt fs all (n + 1 + count fs e) s) (deep_stmt fs all (n + 1 + count fs e + count_stmt fs s) r))
  deep_stmt fs all n (repeat e s line) = ap₂ (λ x y. 1 + max x y) (deep fs all (n + 1) e) (deep_stmt fs all (n + 1 + count fs e) s)
  deep_stmt fs all n (steps a e b s line) =
      ap₂ (λ x y. 1 + max x y) (deep_stmts fs all (n + 1) a)
      (ap₂ max (deep fs all (n + 1 + count_stmts fs a) e)
      (ap₂ max (deep_stmts fs all (n + 1 + count_stmts fs a + count fs e) b) (deep_stmt fs all (n + 1 + count_stmts fs a + count fs e + count_stmts fs b) s)))
  deep_stmt fs all n (lights which args s line) =
      ap₂ (λ x y. 1 + max x y) (deep_args fs all (n + 1) args) (deep_stmt fs all (n + 1 + count_args fs args) s)

  pub deep_stmts : (fs : List Built) → AllSound fs → (n : ℕ) (ss : Stmts) → A.depth_stmts (inline_stmts fs n ss) ≡ depth_rows fs ss
  deep_stmts fs all n done = refl
  deep_stmts fs all n (first s rest) = ap₂ max (deep_stmt fs all n s) (deep_stmts fs all (n + count_stmt fs s) rest)

pub built_sound : (fs : List Built) → AllSound fs → (formals : List Local) (body : Found Body) → Sound (built_in fs formals body)
built_sound fs all formals (Ok b) = record {
  value_nodes = count fs b.value;
  body_is = λ n. numbered_stmts fs all n b.stmts;
  value_is = λ n. numbered fs all n b.value;
  nodes_are = refl;
  depth_is = λ n m. ap₂ (λ x y. max x (1 + y)) (deep_stmts fs all n b.stmts) (deep fs all m b.value);
}
built_sound fs all formals (Err e) = nothing_sound

one_more : (fs : List Built) (b : Built) → AllSound fs → Sound b → AllSound (fs ++ b ∷ [])
one_more [] b all s = (s, tt)
one_more (f ∷ fs) b all s = (all.0, one_more fs b all.1 s)

pub all_sound : (default : Bool) (fs : List Built) (cs : List Callee) → AllSound fs → AllSound (built_from default fs cs)
all_sound default fs [] all = all
all_sound default fs (c ∷ cs) all =
    all_sound default (fs ++ built_in fs c.formals (body_in default c) ∷ []) cs
    (one_more fs (built_in fs c.formals (body_in default c)) all (built_sound fs all c.formals (body_in default c)))

extent_of_one : (fs : List Built) (formals : List Local) (body : Found Body) → (built_in fs formals body).extent ≡ fold_body counting (extents_of fs) body
extent_of_one fs formals (Ok b) = refl
extent_of_one fs formals (Err e) = refl

extents_after : (fs : List Built) (b : Built) (x : Extent) → b.extent ≡ x → extents_of (fs ++ b ∷ []) ≡ extents_of fs ++ x ∷ []
extents_after [] b x p = ap (λ y. y ∷ []) p
extents_after (f ∷ fs) b x p = ap (λ r. f.extent ∷ r) (extents_after fs b x p)

pub extents_are : (default : Bool) (fs : List Built) (cs : List Callee) → extents_of (built_from default fs cs) ≡ extents_from default (extents_of fs) cs
extents_are default fs [] = refl
extents_are default fs (c ∷ cs) =
    extents_are default (fs ++ built_in fs c.formals (body_in default c) ∷ []) cs
    ∙ ap (λ xs. extents_from default xs cs) (extents_after fs (built_in fs c.formals (body_in default c)) (fold_body counting (extents_of fs) (body_in default c)) (extent_of_one fs c.formals (body_in default c)))
