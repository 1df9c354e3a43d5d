-- A new variable and one that is set, at all points and at each.
use Rattle.std.proofs.Common.{◌≡◌, ℕ, ◌<◌, Bool, true, false, cond, List, [], ◌∷◌, ◌++◌, length, get_or, set, refl, sym, ap, ◌∙◌, arith, length-append, ⊎_elim}
use Rattle.std.specs.Prelude.{◌==◌}
use Rattle.std.proofs.Math.Seq.{get_or-append_seam}
use Rattle.std.proofs.lemmas.Bool.{cases_eq, cases_lt}
use Rattle.std.proofs.lemmas.List.{get_or_append_left, length-set, get_or-set_other, get_or-set_same}
use Rattle.sl_ast.specs.declared.kinds.Predefined.{Predefined}
use Rattle.sl_ast.specs.declared.typed.Value.{Value}
use Rattle.sl_ast.specs.declared.typed.Variable.{Variable}
use Rattle.sl_ast.specs.declared.typed.Variable.TheVariants as variables
use Rattle.sl_ast.specs.Classes.{is_uniform_name}
use Rattle.builtins.specs.Names.{place_of}
use Rattle.sl_meaning.specs.Core.{Slot, no_slot, class_in}
use Rattle.sl_meaning.specs.Environment.{Next, zero_value, with_variable, declared}
use Rattle.sl_meaning.specs.Alone.{Gives}
use Rattle.sl_meaning.specs.Grid.{Envs}
use Rattle.core_codegen.specs.Fine.{InScope}
use Rattle.mask_codegen.proofs.Kept.{names_apart}
use Rattle.mask_codegen.proofs.Alike.{Exact, Alike, StmtAlike}

pub declare_alike : (c : ℕ) (ss : List Slot) (s : Slot) (w : Bool) (a : Gives Value) (es : Envs) (x : (ℕ → Value) × Envs) → (s.uniform ≡ true → w ≡ true) → Alike Value c ss w a es x
    → StmtAlike c (ss ++ s ∷ []) ss (λ e. (Next, declared (a e).0 (a e).1)) es (Next, λ i. declared (x.0 i) (x.1 i))
declare_alike c ss s w a es x takes h =
    let last : (i : ℕ) → i < c → get_or ((x.1 i).values ++ (x.0 i ∷ [])) (length ss) zero_value ≡ x.0 i = λ i l.
    ap (λ n. get_or ((x.1 i).values ++ (x.0 i ∷ [])) n zero_value) (sym (h.agree.exact i l)) ∙ get_or-append_seam (x.1 i).values (x.0 i) [] zero_value in
    let pick : (i j k : ℕ) → i < c → j < c → k < length (ss ++ (s ∷ [])) → (get_or (ss ++ (s ∷ [])) k no_slot).uniform ≡ true →
    get_or ((x.1 i).values ++ (x.0 i ∷ [])) k zero_value ≡ get_or ((x.1 j).values ++ (x.0 j ∷ [])) k zero_value =
    λ i j k l m p q. let xi = h.agree.exact i l in let xj = h.agree.exact j m in
    ⊎_elim
    (λ lt.
    get_or_append_left (x.1 i).values (x.0 i ∷ []) zero_value k (omega arith) ∙
    h.agree.agree.uniform i j k l m lt (sym (ap (λ z. z.uniform) (get_or_append_left ss (s ∷ []) no_slot k lt)) ∙ q) ∙ sym (get_or_append_left (x.1 j).values (x.0 j ∷ []) zero_value k (omega arith)))
    (λ ge. let e : k ≡ length ss = omega (arith, length-append ss (s ∷ [])) in
    let uniform : s.uniform ≡ true = sym (ap (λ z. z.uniform) (get_or-append_seam ss s [] no_slot)) ∙ ap (λ n. (get_or (ss ++ (s ∷ [])) n no_slot).uniform) (sym e) ∙ q in
    ap (λ n. get_or ((x.1 i).values ++ (x.0 i ∷ [])) n zero_value) e ∙ last i l ∙ h.same (takes uniform) i j l m ∙ sym (last j m) ∙ ap (λ n. get_or ((x.1 j).values ++ (x.0 j ∷ [])) n zero_value) (sym e))
    (cases_lt k (length ss)) in
    let len : (i : ℕ) → i < c → length ((x.1 i).values ++ (x.0 i ∷ [])) ≡ length (ss ++ (s ∷ [])) = λ i l.
    let xi = h.agree.exact i l in omega (arith, length-append ss (s ∷ []), length-append (x.1 i).values (x.0 i ∷ [])) in
    record {
      signal = λ i l. refl;
      env = λ i l. ap (λ v. declared v (x.1 i)) (h.value i l) ∙ ap (λ e. declared (a (es i)).0 e) (h.env i l);
      agree = record { agree = record { uniform = pick; named = h.agree.agree.named; turns = h.agree.agree.turns; long = λ i l. let q = len i l in omega arith }; exact = len };
    }

name_chosen : (b : Bool) (v w v' w' : Value) → (b ≡ true → v ≡ v') → (b ≡ false → w ≡ w') → cond b v w ≡ cond b v' w'
name_chosen true v w v' w' h k = h refl
name_chosen false v w v' w' h k = k refl

-- a predefined variable: a uniform one takes a uniform value, and a varying one is no uniform one
named_alike : (b : Bool) (p q : Predefined) (v w v' w' : Value) → is_uniform_name p ≡ b → is_uniform_name q ≡ true → (b ≡ true → v ≡ v') → w ≡ w' → cond (place_of p == place_of q) v w ≡ cond (place_of p == place_of q) v' w'
named_alike true p q v w v' w' u n h k = name_chosen (place_of p == place_of q) v w v' w' (λ e. h refl) (λ e. k)
named_alike false p q v w v' w' u n h k =
    let apart = names_apart p q u n in name_chosen (place_of p == place_of q) v w v' w' (λ e. absurd (cc (apart, e))) (λ e. k)

set_exact : (c : ℕ) (x : Variable) (ss : List Slot) (w : Bool) (v : ℕ → Value) (es : Envs) → InScope x ss → (class_in x ss ≡ true → w ≡ true) → (w ≡ true → (i j : ℕ) → i < c → j < c → v i ≡ v j)
    → Exact c ss es → Exact c ss (λ i. with_variable x (v i) (es i))
set_exact c (variables.Predefined p) ss w v es in_scope takes same x =
    record {
      agree = record {
        uniform = x.agree.uniform;
        named = λ i j q l m n. named_alike (is_uniform_name p) p q (v i) ((es i).named q) (v j) ((es j).named q) refl n (λ u. same (takes u) i j l m) (x.agree.named i j q l m n);
        turns = x.agree.turns;
        long = x.agree.long;
      };
      exact = x.exact;
    }
set_exact c (variables.Level n) ss w v es in_scope takes same x =
    let pick : (i j k : ℕ) → i < c → j < c → k < length ss → (get_or ss k no_slot).uniform ≡ true → get_or (set (es i).values n (v i)) k zero_value ≡ get_or (set (es j).values n (v j)) k zero_value =
    λ i j k l m p q. let xi = x.exact i l in let xj = x.exact j m in
    ⊎_elim
    (λ e. let uniform : (get_or ss n no_slot).uniform ≡ true = ap (λ z. (get_or ss z no_slot).uniform) (sym e) ∙ q in
    ap (λ z. get_or (set (es i).values n (v i)) z zero_value) e ∙ get_or-set_same (es i).values n (v i) zero_value (omega arith) ∙ same (takes uniform) i j l m ∙
    sym (get_or-set_same (es j).values n (v j) zero_value (omega arith)) ∙ ap (λ z. get_or (set (es j).values n (v j)) z zero_value) (sym e))
    (λ ne. get_or-set_other (es i).values n k (v i) zero_value ne ∙ x.agree.uniform i j k l m p q ∙ sym (get_or-set_other (es j).values n k (v j) zero_value ne))
    (cases_eq k n) in
    let len : (i : ℕ) → i < c → length (set (es i).values n (v i)) ≡ length ss = λ i l. length-set (es i).values n (v i) ∙ x.exact i l in
    record { agree = record { uniform = pick; named = x.agree.named; turns = x.agree.turns; long = λ i l. let q = len i l in omega arith }; exact = len }

pub assign_alike : (c : ℕ) (ss : List Slot) (x : Variable) (w : Bool) (a : Gives Value) (es : Envs) (r : (ℕ → Value) × Envs) → InScope x ss → (class_in x ss ≡ true → w ≡ true) → Alike Value c ss w a es r
    → StmtAlike c ss ss (λ e. (Next, with_variable x (a e).0 (a e).1)) es (Next, λ i. with_variable x (r.0 i) (r.1 i))
assign_alike c ss x w a es r in_scope takes h =
    record {
      signal = λ i l. refl;
      env = λ i l. ap (λ v. with_variable x v (r.1 i)) (h.value i l) ∙ ap (λ e. with_variable x (a (es i)).0 e) (h.env i l);
      agree = set_exact c x ss w r.0 r.1 in_scope takes h.same h.agree;
    }
