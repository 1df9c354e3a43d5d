-- What a walk passes over, part by part, and how much is left to visit.
use Rattle.std.proofs.Common.{◌≡◌, ℕ, zero, suc, ◌+◌, ◌-◌, ◌<◌, arith, refl, sym, ◌∙◌, ap, Bool, true, false, cond, List, [], ◌∷◌, ◌++◌, length, filter, Option, Some, None, append_assoc, append-nil, length-append}
use Rattle.std.proofs.lemmas.List.Elements.{filter-append}
use Rattle.std.specs.Prelude.{MatchOption, IfNone}
use Rattle.bound_split.specs.declared.splits.Decision.{Decision}
use Rattle.bound_split.specs.declared.walk.Leaf.{Leaf}
use Rattle.patches.specs.Parts.{Part, IsPart}
use Rattle.bound_split.specs.Leaves.{depth, leaves, pending}
use Rattle.bound_split.specs.Culling.{IsTest, Skips, parts_to, visits}
use Rattle.bound_split.proofs.Stacks.{IsHalved, pushed, pending-push, leaves-some}

pub visits-push : (ps : List Part) (q : Part) → visits (ps ++ q ∷ []) ≡ visits ps + parts_to (16 - depth q)
visits-push [] q = omega arith
visits-push (p ∷ ps) q = omega (arith, visits-push ps q)

parts_to-some : (n : ℕ) → 0 < parts_to n
parts_to-some zero = omega arith
parts_to-some (suc n) = omega arith

-- a part that is taken off the stack is visited
pub visits-pop : (ps : List Part) (q : Part) → visits ps < visits (ps ++ q ∷ [])
visits-pop ps q = omega (arith, visits-push ps q, parts_to-some (16 - depth q))

-- and so is one that is split
pub visits-halves : (decide : Part → Decision) (s t : List Part) (p l h : Part) → IsHalved decide p l h → t ≡ s ++ h ∷ l ∷ [] → visits t < visits (s ++ p ∷ [])
visits-halves decide s t p l h half e =
    let more : 16 - depth p ≡ suc (16 - depth h) = omega (arith, half.high.deeper, half.high.a, half.high.b) in
    let same : 16 - depth l ≡ 16 - depth h = omega (arith, half.low.deeper, half.high.deeper) in
    let two = ap parts_to more in
    let one = ap parts_to same in
    let whole = ap visits (e ∙ pushed s l h) in
    omega (arith, whole, one, two, visits-push (s ++ h ∷ []) l, visits-push s h, visits-push s p)

-- nothing passed over
pub skips-none : (test : Part → Bool) (ps : List Part) → Skips test ps ps
skips-none test ps = record { skipped = []; split = refl; fail = refl }

-- the leaves below a part that fails the test are passed over too
pub skips-drop : (Answers : Part → Bool → Type 0) (decide : Part → Decision) (test : Part → Bool) (all : List Part) (s : List Part) (p : Part) → IsTest Answers decide test → IsPart p → Answers p false
    → Skips test all (pending decide (s ++ p ∷ [])) → Skips test all (pending decide s)
skips-drop Answers decide test all s p is part answered k =
    let none = is.inherited p part (sym (is.computed p false part answered)) in
    record {
      skipped = k.skipped ++ leaves decide p;
      split = k.split ∙ ap (λ qs. k.skipped ++ qs) (pending-push decide s p) ∙ sym (append_assoc k.skipped (leaves decide p) (pending decide s));
      fail = filter-append test k.skipped (leaves decide p) ∙ ap (λ qs. qs ++ filter test (leaves decide p)) k.fail ∙ none;
    }

-- a split changes nothing of what is still to come
pub skips-split : (decide : Part → Decision) (test : Part → Bool) (all s u : List Part) (p : Part) → pending decide u ≡ leaves decide p ++ pending decide s
    → Skips test all (pending decide (s ++ p ∷ [])) → Skips test all (pending decide u)
skips-split decide test all s u p is k =
    record { skipped = k.skipped; split = k.split ∙ ap (λ qs. k.skipped ++ qs) (pending-push decide s p ∙ sym is); fail = k.fail }

-- a part that is diced is the next leaf
pub skips-leaf : (decide : Part → Decision) (test : Part → Bool) (all s : List Part) (p : Part) → leaves decide p ≡ p ∷ [] → Skips test all (pending decide (s ++ p ∷ [])) → Skips test all (p ∷ pending decide s)
skips-leaf decide test all s p is k =
    record { skipped = k.skipped; split = k.split ∙ ap (λ qs. k.skipped ++ qs) (pending-push decide s p ∙ ap (λ qs. qs ++ pending decide s) is); fail = k.fail }

-- where nothing is left, no part passes
pub filter-skipped-all : (test : Part → Bool) (ps : List Part) → Skips test ps [] → filter test ps ≡ []
filter-skipped-all test ps k = ap (filter test) (k.split ∙ append-nil k.skipped) ∙ k.fail

-- the next part that passes is the first that is not passed over
pub filter-skipped : (test : Part → Bool) (ps qs : List Part) (p : Part) → test p ≡ true → Skips test ps (p ∷ qs) → filter test ps ≡ p ∷ filter test qs
filter-skipped test ps qs p passes k =
    ap (filter test) k.split ∙ filter-append test k.skipped (p ∷ qs) ∙ ap (λ xs. xs ++ filter test (p ∷ qs)) k.fail
    ∙ ap (λ b. cond b (p ∷ filter test qs) (filter test qs)) passes

-- ---- the test that every part passes
filter-all : (ps : List Part) → filter (λ _. true) ps ≡ ps
filter-all [] = refl
filter-all (p ∷ ps) = ap (λ xs. p ∷ xs) (filter-all ps)

pub all_pass : (Answers : Part → Bool → Type 0) (decide : Part → Decision) → ((p : Part) (b : Bool) → Answers p b → b ≡ true) → IsTest Answers decide (λ _. true)
all_pass Answers decide always = record { computed = λ p b part is. always p b is; inherited = λ p part is. cc is }

pub unfiltered : (ps qs : List Part) (p : Part) → filter (λ _. true) ps ≡ p ∷ filter (λ _. true) qs → ps ≡ p ∷ qs
unfiltered ps qs p is = sym (filter-all ps) ∙ is ∙ ap (λ xs. p ∷ xs) (filter-all qs)

pub unfiltered-none : (ps : List Part) → filter (λ _. true) ps ≡ [] → ps ≡ []
unfiltered-none ps is = sym (filter-all ps) ∙ is

-- a stack without leaves is empty
pub nothing_pending : (decide : Part → Decision) (ps : List Part) → pending decide ps ≡ [] → ps ≡ []
nothing_pending decide [] is = refl
nothing_pending decide (p ∷ ps) is =
    absurd (omega (arith, ap length is, length-append (pending decide ps) (leaves decide p), leaves-some decide p))

pub unfiltered_next : (r : Option Leaf) (old new : List Part) → MatchOption r (filter (λ _. true) old ≡ []) (λ leaf. filter (λ _. true) old ≡ leaf.piece ∷ filter (λ _. true) new)
    → MatchOption r (old ≡ []) (λ leaf. old ≡ leaf.piece ∷ new)
unfiltered_next None old new is = unfiltered-none old is
unfiltered_next (Some leaf) old new is = unfiltered old new leaf.piece is

-- a walk that has ended was at its end
pub ended_before : (r : Option Leaf) (decide : Part → Decision) (old new : List Part) → MatchOption r (pending decide old ≡ []) (λ leaf. pending decide old ≡ leaf.piece ∷ pending decide new) → IfNone r (new ≡ [])
    → IfNone r (new ≡ old)
ended_before None decide old new is ended = ended ∙ sym (nothing_pending decide old is)
ended_before (Some leaf) decide old new is ended = tt

-- nothing to pop
pub none_there : (n : ℕ) → (0 < n → false ≡ true) → n ≡ 0
none_there zero h = refl
none_there (suc n) h = absurd (let no = h (omega arith) in cc no)
