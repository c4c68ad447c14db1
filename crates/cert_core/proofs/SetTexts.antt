-- The text of a set is read as that set, and no other bytes are.
use Rattle.std.proofs.Common.{◌≡◌, ℕ, ◌+◌, ◌*◌, ◌==◌, ◌↔◌, ltb, not, Bool, true, false, cond, List, [], ◌++◌, length, take, drop, Option, Some, None, Result, Ok, Err, refl, sym, ap, subst, ◌∙◌, arith}
use Rattle.std.specs.Prelude.{IfOk}
use Rattle.std.specs.List.{flat_map}
use Rattle.std.specs.Int.{w16, w32, from_be_bytes, to_be_bytes}
use Rattle.std.specs.Str.{bytes_eq}
use Rattle.std.proofs.lemmas.Bool.{ltb-false, le-ltb, eqb-true}
use Rattle.std.proofs.lemmas.Slice.Eq.{bytes_eq-Decides}
use Rattle.std.proofs.lemmas.List.{length-take-le, length-drop, drop-drop, take-append-drop}
use Rattle.dh_base.specs.declared.base_fault.BaseFault.{BaseFault}
use Rattle.dh_base.specs.Fields.{◌>>=◌, AreBytes, StandsAt, bytes_at}
use Rattle.dh_base.specs.Formats.{or_fault}
use Rattle.dh_base.proofs.Fields.{wide16, wide32, bind_ok, stands-bytes, bytes-stands, AreBytes-take, AreBytes-drop}
use Rattle.cert_core.specs.declared.set_fault.SetFault.{SetFault}
use Rattle.cert_core.specs.declared.set_fault.SetFault.TheVariants.{BadTag, BadF, BadLength}
use Rattle.cert_core.specs.Sets.{SetTold, set_tag, set_text, id_bytes, IsSet}
use Rattle.cert_core.specs.SetReading.{accounts_in, first_twice, or_twice, set_behind_tag, set_of}
use Rattle.cert_core.proofs.Accounts.{length-accounts_in, wide-accounts_in, spelled-accounts_in, length-accounts, accounts_in-spelled, new-none_twice, none_twice-new}

tag_was_ok : (r : Result (List ℕ) BaseFault) (x : List ℕ) → or_fault (λ _. BadTag) r ≡ Ok x → r ≡ Ok x
tag_was_ok (Ok y) x e = cc
tag_was_ok (Err d) x e = absurd cc

passed : (b : Bool) (d : SetFault) (r : Result SetTold SetFault) (set : SetTold) → cond b (Err d) r ≡ Ok set → (b ≡ false) × (r ≡ Ok set)
passed true d r set e = absurd cc
passed false d r set e = (refl, e)

none_twice : (made set : SetTold) (o : Option ℕ) → or_twice made o ≡ Ok set → (o ≡ None) × (made ≡ set)
none_twice made set None e = (refl, cc)
none_twice made set (Some seat) e = absurd cc

not_false : (b : Bool) → not b ≡ false → b ≡ true
not_false true e = refl
not_false false e = absurd cc

-- what stands behind the tag
abbrev epoch_in : List ℕ → ℕ
epoch_in text = from_be_bytes w32 (take 4 (drop 8 text))

abbrev f_in : List ℕ → ℕ
f_in text = from_be_bytes w16 (take 2 (drop 12 text))

abbrev set_in : List ℕ → SetTold
set_in text = record { epoch = epoch_in text; f = f_in text; seats = accounts_in (3 * f_in text + 1) (drop 14 text) }

-- the bytes behind the tag are those of the set that is read
parts : (text : List ℕ) → AreBytes text → length text ≡ 14 + 32 * (3 * f_in text + 1) →
    drop 8 text ≡ to_be_bytes w32 (epoch_in text) ++ (to_be_bytes w16 (f_in text) ++ flat_map id_bytes (accounts_in (3 * f_in text + 1) (drop 14 text)))
parts text are size =
    let four : length (take 4 (drop 8 text)) ≡ 4 = length-take-le 4 (drop 8 text) (omega (arith, length-drop 8 text, size)) in
    let two : length (take 2 (drop 12 text)) ≡ 2 = length-take-le 2 (drop 12 text) (omega (arith, length-drop 12 text, size)) in
    let epoch : to_be_bytes w32 (epoch_in text) ≡ take 4 (drop 8 text) = wide32.back (take 4 (drop 8 text)) four (AreBytes-take 4 (drop 8 text) (AreBytes-drop 8 text are)) in
    let f : to_be_bytes w16 (f_in text) ≡ take 2 (drop 12 text) = wide16.back (take 2 (drop 12 text)) two (AreBytes-take 2 (drop 12 text) (AreBytes-drop 12 text are)) in
    let rest : flat_map id_bytes (accounts_in (3 * f_in text + 1) (drop 14 text)) ≡ drop 14 text =
    spelled-accounts_in (3 * f_in text + 1) (drop 14 text) (omega (arith, length-drop 14 text, size)) in
    let second : drop 12 text ≡ take 2 (drop 12 text) ++ drop 14 text =
    sym (take-append-drop 2 (drop 12 text)) ∙ ap (λ (t : List ℕ). take 2 (drop 12 text) ++ t) (drop-drop 2 12 text) in
    let first : drop 8 text ≡ take 4 (drop 8 text) ++ drop 12 text =
    sym (take-append-drop 4 (drop 8 text)) ∙ ap (λ (t : List ℕ). take 4 (drop 8 text) ++ t) (drop-drop 4 8 text) in
    let behind : take 2 (drop 12 text) ++ drop 14 text ≡ to_be_bytes w16 (f_in text) ++ flat_map id_bytes (accounts_in (3 * f_in text + 1) (drop 14 text)) =
    ap (λ (t : List ℕ). t ++ drop 14 text) (sym f) ∙ ap (λ (t : List ℕ). to_be_bytes w16 (f_in text) ++ t) (sym rest) in
    first ∙ ap (λ (t : List ℕ). take 4 (drop 8 text) ++ t) (second ∙ behind)
    ∙ ap (λ (t : List ℕ). t ++ (to_be_bytes w16 (f_in text) ++ flat_map id_bytes (accounts_in (3 * f_in text + 1) (drop 14 text)))) (sym epoch)

abbrev behind_tag : List ℕ → List ℕ → Result SetTold SetFault
behind_tag text tag =
    cond (not (bytes_eq tag set_tag)) (Err BadTag) (cond (ltb (length text) 14) (Err (BadLength (length text))) (set_behind_tag (epoch_in text) (f_in text) text))

text-set : (text : List ℕ) (set : SetTold) → AreBytes text → set_of text ≡ Ok set → IsSet set × (text ≡ set_text set)
unfolding set_of
text-set text set are e =
    let a = bind_ok (or_fault (λ _. BadTag) (bytes_at 8 text 0)) (behind_tag text) set e in
    let b = passed (not (bytes_eq a.0 set_tag)) BadTag (cond (ltb (length text) 14) (Err (BadLength (length text))) (set_behind_tag (epoch_in text) (f_in text) text)) set a.2 in
    let c = passed (ltb (length text) 14) (BadLength (length text)) (set_behind_tag (epoch_in text) (f_in text) text) set b.1 in
    let d = passed (ltb 5 (f_in text)) (BadF (f_in text)) _ set c.1 in
    let g = passed (not (length text == 14 + 32 * (3 * f_in text + 1))) (BadLength (length text)) _ set d.1 in
    let h = none_twice (set_in text) set (first_twice [] (accounts_in (3 * f_in text + 1) (drop 14 text))) g.1 in
    let size : length text ≡ 14 + 32 * (3 * f_in text + 1) = eqb-true (length text) (14 + 32 * (3 * f_in text + 1)) (not_false (length text == 14 + 32 * (3 * f_in text + 1)) g.0) in
    let tag : a.0 ≡ set_tag = (bytes_eq-Decides a.0 set_tag).0 (not_false (bytes_eq a.0 set_tag) b.0) in
    let stands : StandsAt set_tag text 0 = subst (λ (t : List ℕ). StandsAt t text 0) tag (stands-bytes 8 text a.0 0 (tag_was_ok (bytes_at 8 text 0) a.0 a.1)).1 in
    let front : take 8 text ≡ set_tag = stands.here in
    let spelled : text ≡ set_text (set_in text) = sym (take-append-drop 8 text) ∙ ap (λ (t : List ℕ). t ++ drop 8 text) front ∙ ap (λ (t : List ℕ). set_tag ++ t) (parts text are size) in
    let is : IsSet (set_in text) = record {
      has = record {
        f = ltb-false 5 (f_in text) d.0;
        seats = length-accounts_in (3 * f_in text + 1) (drop 14 text);
        different = new-none_twice [] (accounts_in (3 * f_in text + 1) (drop 14 text)) h.0;
      };
      epoch = (let small = wide32.below (take 4 (drop 8 text)) (AreBytes-take 4 (drop 8 text) (AreBytes-drop 8 text are)) in omega (arith, small));
      wide = wide-accounts_in (3 * f_in text + 1) (drop 14 text) (omega (arith, length-drop 14 text, size));
    } in
    subst (λ (s : SetTold). IsSet s × (text ≡ set_text s)) h.1 (is, spelled)

length-set_text : (set : SetTold) → IsSet set → length (set_text set) ≡ 14 + 32 * (3 * set.f + 1)
length-set_text set is = omega (arith, length-accounts set.seats is.wide, is.has.seats)

behind-tag : (set : SetTold) → IsSet set → set_behind_tag set.epoch set.f (set_text set) ≡ Ok set
behind-tag set is =
    let few : ltb 5 set.f ≡ false = le-ltb 5 set.f is.has.f in
    let size : (length (set_text set) == 14 + 32 * (3 * set.f + 1)) ≡ true = grind (arith, length-set_text set is) in
    let seats : accounts_in (3 * set.f + 1) (flat_map id_bytes set.seats) ≡ set.seats =
    ap (λ (n : ℕ). accounts_in n (flat_map id_bytes set.seats)) (sym is.has.seats) ∙ accounts_in-spelled set.seats is.wide in
    rw (few, size, seats, none_twice-new [] set.seats is.has.different) refl

set-text : (set : SetTold) → IsSet set → set_of (set_text set) ≡ Ok set
unfolding set_of
set-text set is =
    let text : List ℕ = set_text set in
    let long : length (set_text set) ≡ 14 + 32 * (3 * set.f + 1) = length-set_text set is in
    let here : StandsAt set_tag (set_text set) 0 = record { fits = omega (arith, long); here = refl } in
    let one : bytes_at 8 (set_text set) 0 ≡ Ok set_tag = bytes-stands 8 (set_text set) set_tag 0 refl here in
    let enough : ltb (length (set_text set)) 14 ≡ false = le-ltb (length (set_text set)) 14 (omega (arith, long)) in
    let epoch : epoch_in (set_text set) ≡ set.epoch = wide32.again set.epoch (let small = is.epoch in omega arith) in
    let f : f_in (set_text set) ≡ set.f = wide16.again set.f (let small = is.has.f in omega arith) in
    ap (λ (r : Result (List ℕ) BaseFault). or_fault (λ _. BadTag) r >>= behind_tag (set_text set)) one
    ∙ ap (λ (b : Bool). cond b (Err (BadLength (length (set_text set)))) (set_behind_tag (epoch_in (set_text set)) (f_in (set_text set)) (set_text set))) enough
    ∙ ap (λ (n : ℕ). set_behind_tag n (f_in (set_text set)) (set_text set)) epoch ∙ ap (λ (n : ℕ). set_behind_tag set.epoch n (set_text set)) f ∙ behind-tag set is

pub set-read : (text : List ℕ) (set : SetTold) → AreBytes text → (set_of text ≡ Ok set) ↔ (IsSet set × (text ≡ set_text set))
set-read text set are = (text-set text set are, λ (is, spelled). ap set_of spelled ∙ set-text set is)

pub found_set : (text : List ℕ) → AreBytes text → (r : Result SetTold SetFault) → r ≡ set_of text → IfOk r (λ set. IsSet set × (text ≡ set_text set))
found_set text are (Ok set) e = (set-read text set are).0 (sym e)
found_set text are (Err fault) e = tt
