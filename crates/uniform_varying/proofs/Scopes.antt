-- A statement adds to the scope, and what stood in it stays in front; lists one behind another.
use Rattle.std.proofs.Common.{◌≡◌, Bool, List, [], ◌∷◌, ◌++◌, length, take, refl, ap, append_assoc}
use Rattle.sl_ast.specs.Typed.{Stmt, empty, leave, again, block, group, declare, start, assign, test, test_else, repeat, steps, lights}
use Rattle.sl_ast.specs.Classes.{after}

head_kept : (x o : Bool) (xs os : List Bool) → x ∷ xs ≡ o ∷ os → x ≡ o
head_kept x o xs os h = cc h

tail_kept : (x o : Bool) (xs os : List Bool) → x ∷ xs ≡ o ∷ os → xs ≡ os
tail_kept x o xs os h = cc h

more_kept : (old us vs : List Bool) → take (length old) us ≡ old → take (length old) (us ++ vs) ≡ old
more_kept [] us vs h = refl
more_kept (o ∷ os) [] vs h = absurd (cc h)
more_kept (o ∷ os) (x ∷ us) vs h =
    let same = head_kept x o (take (length os) us) os h in
    let rest = more_kept os us vs (tail_kept x o (take (length os) us) os h) in
    cc (same, rest)

pub after_kept : (s : Stmt) (old us : List Bool) → take (length old) us ≡ old → take (length old) (after s us) ≡ old
after_kept (declare uniform kind e p) old us h = more_kept old us (uniform ∷ []) h
after_kept (start uniform kind p) old us h = more_kept old us (uniform ∷ []) h
after_kept (empty p) old us h = h
after_kept (leave p) old us h = h
after_kept (again p) old us h = h
after_kept (block body p) old us h = h
after_kept (group body) old us h = h
after_kept (assign x operator kind e p) old us h = h
after_kept (test e s p) old us h = h
after_kept (test_else e s r p) old us h = h
after_kept (repeat e s p) old us h = h
after_kept (steps a e b s p) old us h = h
after_kept (lights over args s p) old us h = h

pub all_kept : (us : List Bool) → take (length us) us ≡ us
all_kept [] = refl
all_kept (u ∷ us) = ap (λ r. u ∷ r) (all_kept us)

pub joined : (xs ys zs : List Bool) → (xs ++ ys) ++ zs ≡ xs ++ (ys ++ zs)
joined xs ys zs = append_assoc xs ys zs
