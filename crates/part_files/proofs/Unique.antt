-- Parts make one picture, or none.
use Rattle.std.proofs.Common.{◌≡◌, refl, sym, ap, ◌∙◌, subst, ℕ, suc, ◌<◌, arith, List, [], ◌∷◌, length, get_or, Some, Result, Ok, Err}
use Rattle.parts.specs.Formats.{Part, no_part, bucket_total}
use Rattle.parts.specs.Pictures.{buckets_of, joined}
use Rattle.parts.specs.Joining.{header_at, AreParsed, AreDisjoint, SomeHas, IsJoined, IsFault}
use Rattle.parts.specs.declared.fault.JoinFault.{JoinFault}
use Rattle.parts.specs.declared.fault.JoinFault.TheVariants as faults
use Rattle.parts.proofs.Bucketry.{parsed_same}
use Rattle.part_files.specs.declared.cause.JoinCause.{JoinCause}
use Rattle.part_files.specs.Parts.{cause_of_fault, MakePicture, MakeNone}

lists_same : (ps qs : List Part) → length ps ≡ length qs → ((i : ℕ) → i < length ps → get_or ps i no_part ≡ get_or qs i no_part) → ps ≡ qs
lists_same [] [] l f = refl
lists_same [] (q ∷ qs) l f = absurd (omega (arith, l))
lists_same (p ∷ ps) [] l f = absurd (omega (arith, l))
lists_same (p ∷ ps) (q ∷ qs) l f =
    let head : p ≡ q = f 0 (omega arith) in
    ap (λ (x : Part). x ∷ ps) head ∙ ap (λ (xs : List Part). q ∷ xs) (lists_same ps qs (omega (arith, l)) (λ i t. f (suc i) (omega (arith, t))))

-- texts have one list of parts
parts_same : (texts : List (List ℕ)) (ps qs : List Part) → AreParsed texts ps → AreParsed texts qs → ps ≡ qs
parts_same texts ps qs p q =
    lists_same ps qs (p.count ∙ sym q.count)
    (λ i l. (let c = p.count in let there : i < length texts = omega (arith, c, l) in parsed_same (get_or texts i []) (get_or ps i no_part) (get_or qs i no_part) (p.each i there) (q.each i there)))

-- parts that are joined have no fault
faultless : (texts : List (List ℕ)) (ps : List Part) (bytes : List ℕ) (fault : JoinFault) (cause : JoinCause) → IsJoined texts ps bytes → IsFault texts fault → cause_of_fault fault ≡ Some cause → ⊥
faultless texts ps bytes (faults.J1 part) cause j f e = f.no_part (get_or ps part no_part) (j.of_one.parsed.each part f.there)
faultless texts ps bytes (faults.J2 part) cause j f e =
    let same : f.0 ≡ ps = parts_same texts f.0 ps f.1 j.of_one.parsed in
    let there : part < length ps = subst (λ qs. part < length qs) same f.2.there in
    f.2.other (subst (λ qs. header_at qs part ≡ header_at qs 0) (sym same) (j.of_one.alike part there))
faultless texts ps bytes (faults.J3 part bucket) cause j f e =
    let same : f.0 ≡ ps = parts_same texts f.0 ps f.1.of_one.parsed j.of_one.parsed in
    let disjoint : AreDisjoint f.0 = subst (λ qs. AreDisjoint qs) (sym same) j.disjoint in
    disjoint part bucket f.1.doubled.has f.1.doubled.earlier
faultless texts ps bytes (faults.J4 bucket) cause j f e =
    let same : f.0 ≡ ps = parts_same texts f.0 ps f.1.of_one.parsed j.of_one.parsed in
    f.1.missing.missing (subst (λ qs. SomeHas qs bucket) (sym same) (j.whole bucket (subst (λ qs. bucket < bucket_total (header_at qs 0)) same f.1.missing.there)))
faultless texts ps bytes faults.NoMemory cause j f e = absurd (cc e)

pictures_same : (texts : List (List ℕ)) (ps qs : List Part) (bs cs : List ℕ) → IsJoined texts ps bs → IsJoined texts qs cs → bs ≡ cs
pictures_same texts ps qs bs cs p q =
    let same : ps ≡ qs = parts_same texts ps qs p.of_one.parsed q.of_one.parsed in
    sym p.picture ∙ ap (λ (xs : List Part). joined (header_at xs 0) (buckets_of xs)) same ∙ q.picture

-- what was read makes one picture
pub one_picture : (r : Result (List (List ℕ)) JoinCause) (bs cs : List ℕ) → MakePicture r bs → MakePicture r cs → bs ≡ cs
one_picture (Ok texts) bs cs p q = pictures_same texts p.0 q.0 bs cs p.1 q.1
one_picture (Err cause) bs cs p q = absurd p

-- or none
pub not_none : (r : Result (List (List ℕ)) JoinCause) (bytes : List ℕ) (cause : JoinCause) → MakePicture r bytes → MakeNone r cause → ⊥
not_none (Ok texts) bytes cause p q = faultless texts p.0 bytes q.0 cause p.1 q.2 q.1
not_none (Err first) bytes cause p q = absurd p
