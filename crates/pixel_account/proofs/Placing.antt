-- A fragment put in among those that can show.
use Rattle.std.proofs.Common.{◌≡◌, ℕ, zero, suc, ◌+◌, ◌<◌, ◌≤◌, ap, arith, refl, sym, ◌∙◌, true, false, cond, List, [], ◌∷◌, ◌++◌, take, drop, length, get_or, append_assoc}
use Rattle.std.specs.Prelude.{◌≤ℤ◌, ◌<ℤ◌, All}
use Rattle.std.proofs.lemmas.List.{drop_more, drop_all, take_more, take-map, drop-map, map-append, length-map, get_or-map}
use Rattle.std.proofs.lemmas.Grind.{common_steps}
use Rattle.std.proofs.lemmas.List.Elements.{All-take, All-drop, All-append, All-cons}
use Rattle.hider.specs.declared.fragment.Fragment.{Fragment}
use Rattle.hider.specs.Composite.{is_opaque, cut}
use Rattle.hider.specs.Fragments.{put_in}
use Rattle.hider.specs.Kept.{keep}
use Rattle.hider.proofs.Keeps.{cut_cut}
use Rattle.hider.proofs.Placing.{le_true, le_false}
use Rattle.pixel_account.specs.declared.traces.Trace.{Trace}
use Rattle.pixel_account.specs.Traces.{fragments_in, AreWhole, KeepsAt}

-- the first k are no farther than the fragment, and none of them is opaque
pub record IsBehind (f : Fragment) (l : List Fragment) (k : ℕ) : Type 0 where
  pub kept : keep f l ≡ take k l ++ keep f (drop k l)
  pub rest : cut (drop k l) ≡ drop k l

pub behind_none : (f : Fragment) (l : List Fragment) → cut l ≡ l → IsBehind f l 0
behind_none f l whole = record { kept = refl; rest = whole }

-- ---- before the next one
before_next : (f g : Fragment) (gs : List Fragment) → f.depth <ℤ g.depth → cut (g ∷ gs) ≡ g ∷ gs → keep f (g ∷ gs) ≡ f ∷ cond (is_opaque f) [] (g ∷ gs)
before_next f g gs near whole = let n = le_false g.depth f.depth near in rw n (ap (λ r. f ∷ cond (is_opaque f) [] r) whole)

pub place_before : (f g : Fragment) (l : List Fragment) (k : ℕ) → k < length l → g ≡ get_or l k g → f.depth <ℤ g.depth → IsBehind f l k → KeepsAt f l k
place_before f g l k lt is near b =
    let rest : drop k l ≡ g ∷ drop (k + 1) l = drop_more l k g lt ∙ ap (λ h. h ∷ drop (k + 1) l) (sym is) in
    b.kept ∙ ap (λ r. take k l ++ r) (ap (keep f) rest ∙ before_next f g (drop (k + 1) l) near (ap cut (sym rest) ∙ b.rest ∙ rest) ∙ ap (λ r. f ∷ cond (is_opaque f) [] r) (sym rest))

-- ---- behind the next one
opaque_next : (f g : Fragment) (gs : List Fragment) → g.depth ≤ℤ f.depth → is_opaque g ≡ true → cut (g ∷ gs) ≡ g ∷ gs → keep f (g ∷ gs) ≡ g ∷ gs
opaque_next f g gs near opaque whole =
    let n = le_true g.depth f.depth near in
    let alone : g ∷ [] ≡ g ∷ gs = rw opaque at whole in
    rw (n, opaque) alone

joined : (k : ℕ) (l : List Fragment) → take k l ++ drop k l ≡ l
joined k l = grind (arith, common_steps)

pub hidden_by : (f g : Fragment) (l : List Fragment) (k : ℕ) → k < length l → g ≡ get_or l k g → g.depth ≤ℤ f.depth → is_opaque g ≡ true → IsBehind f l k → keep f l ≡ l
hidden_by f g l k lt is near opaque b =
    let rest : drop k l ≡ g ∷ drop (k + 1) l = drop_more l k g lt ∙ ap (λ h. h ∷ drop (k + 1) l) (sym is) in
    b.kept ∙ ap (λ r. take k l ++ r) (ap (keep f) rest ∙ opaque_next f g (drop (k + 1) l) near opaque (ap cut (sym rest) ∙ b.rest ∙ rest) ∙ sym rest) ∙ joined k l

clear_next : (f g : Fragment) (gs : List Fragment) → g.depth ≤ℤ f.depth → is_opaque g ≡ false → keep f (g ∷ gs) ≡ g ∷ keep f gs
clear_next f g gs near clear = let n = le_true g.depth f.depth near in rw (n, clear) refl

clear_rest : (g : Fragment) (gs : List Fragment) → is_opaque g ≡ false → cut (g ∷ gs) ≡ g ∷ gs → cut gs ≡ gs
clear_rest g gs clear whole = let same : g ∷ cut gs ≡ g ∷ gs = rw clear at whole in cc

pub behind_more : (f g : Fragment) (l : List Fragment) (k : ℕ) → k < length l → g ≡ get_or l k g → g.depth ≤ℤ f.depth → is_opaque g ≡ false → IsBehind f l k → IsBehind f l (k + 1)
behind_more f g l k lt is near clear b =
    let rest : drop k l ≡ g ∷ drop (k + 1) l = drop_more l k g lt ∙ ap (λ h. h ∷ drop (k + 1) l) (sym is) in
    let front : take (k + 1) l ≡ take k l ++ g ∷ [] = take_more l k g lt ∙ ap (λ h. take k l ++ h ∷ []) (sym is) in
    record {
      kept = b.kept ∙ ap (λ r. take k l ++ r) (ap (keep f) rest ∙ clear_next f g (drop (k + 1) l) near clear)
          ∙ sym (append_assoc (take k l) (g ∷ []) (keep f (drop (k + 1) l))) ∙ ap (λ r. r ++ keep f (drop (k + 1) l)) (sym front);
      rest = clear_rest g (drop (k + 1) l) clear (ap cut (sym rest) ∙ b.rest ∙ rest);
    }

-- ---- behind all
alone : (f : Fragment) → keep f [] ≡ f ∷ cond (is_opaque f) [] []
alone f = refl

pub behind_all : (f : Fragment) (l : List Fragment) (k : ℕ) → length l ≤ k → IsBehind f l k → KeepsAt f l k
behind_all f l k far b =
    let none : drop k l ≡ [] = drop_all k l far in
    b.kept ∙ ap (λ r. take k l ++ r) (ap (keep f) none ∙ alone f ∙ ap (λ r. f ∷ cond (is_opaque f) [] r) (sym none))

-- ---- traces
-- fragment k of some traces
pub inside_map : (ts : List Trace) (k : ℕ) → k < length ts → k < length (fragments_in ts)
inside_map ts k lt = omega (arith, lt, length-map ts (λ t. t.fragment))

pub at_map : (ts : List Trace) (t : Trace) (k : ℕ) → k < length ts → t ≡ get_or ts k t → t.fragment ≡ get_or (fragments_in ts) k t.fragment
at_map ts t k lt is = ap (λ u. u.fragment) is ∙ sym (get_or-map (λ u. u.fragment) ts k t t.fragment lt)

-- with one put in at a place, behind which nothing is left where it is opaque
pub inserted : (ts : List Trace) (t : Trace) (p : ℕ) → fragments_in (take p ts ++ t ∷ drop p ts) ≡ take p (fragments_in ts) ++ t.fragment ∷ drop p (fragments_in ts)
inserted ts t p =
    let f : Trace → Fragment = λ u. u.fragment in
    map-append f (take p ts) (t ∷ drop p ts) ∙ ap (λ l. l ++ t.fragment ∷ fragments_in (drop p ts)) (sym (take-map f p ts)) ∙ ap (λ l. take p (fragments_in ts) ++ t.fragment ∷ l) (sym (drop-map f p ts))

pub inserted_clear : (ts : List Trace) (t : Trace) (p : ℕ) → KeepsAt t.fragment (fragments_in ts) p → is_opaque t.fragment ≡ false → fragments_in (take p ts ++ t ∷ drop p ts) ≡ keep t.fragment (fragments_in ts)
inserted_clear ts t p at' clear = inserted ts t p ∙ sym (rw clear at at')

cut_at : (ts : List Trace) (t : Trace) (p : ℕ) → p ≤ length ts → take (p + 1) (take p ts ++ t ∷ drop p ts) ≡ take p ts ++ t ∷ []
cut_at [] t zero h = refl
cut_at [] t (suc p) h = absurd (omega (arith, h))
cut_at (u ∷ us) t zero h = refl
cut_at (u ∷ us) t (suc p) h = let e : suc p + 1 ≡ suc (p + 1) = omega arith in ap (λ n. take n (u ∷ (take p us ++ t ∷ drop p us))) e ∙ ap (λ r. u ∷ r) (cut_at us t p (omega (arith, h)))

pub inserted_opaque : (ts : List Trace) (t : Trace) (p : ℕ) → p ≤ length ts → KeepsAt t.fragment (fragments_in ts) p → is_opaque t.fragment ≡ true
    → fragments_in (take (p + 1) (take p ts ++ t ∷ drop p ts)) ≡ keep t.fragment (fragments_in ts)
inserted_opaque ts t p h at' opaque =
    let f : Trace → Fragment = λ u. u.fragment in
    ap fragments_in (cut_at ts t p h) ∙ map-append f (take p ts) (t ∷ []) ∙ ap (λ l. l ++ t.fragment ∷ []) (sym (take-map f p ts)) ∙ sym (rw opaque at at')

-- what is kept is whole
pub kept_whole : (ts us : List Trace) (f : Fragment) → fragments_in us ≡ keep f (fragments_in ts) → AreWhole us
kept_whole ts us f is = ap cut is ∙ cut_cut (put_in f (fragments_in ts)) ∙ sym is

pub all_inserted : (P : Trace → Type 0) (ts : List Trace) (t : Trace) (p : ℕ) → P t → All P ts → All P (take p ts ++ t ∷ drop p ts)
all_inserted P ts t p h all = All-append P (take p ts) (t ∷ drop p ts) (All-take P p ts all) (All-cons P t (drop p ts) h (All-drop P p ts all))
