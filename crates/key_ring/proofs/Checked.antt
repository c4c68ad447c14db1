-- The answers of a check exclude one another.
use Rattle.std.proofs.Common.{◌≡◌, ℕ, ◌+◌, ◌*◌, ◌<◌, ◌≤◌, Bool, true, false, cond, nat_le, List, [], length, get_or, take, drop, Result, Ok, Err, refl, sym, ap, subst, ◌∙◌, arith}
use Rattle.std.specs.Prelude.{◌↔◌}
use Rattle.std.proofs.lemmas.Bool.{lt-leb, le-leb}
use Rattle.std.proofs.lemmas.Slice.Eq.{bytes_eq-Decides}
use Rattle.sha2.specs.Sha256.{sha256}
use Rattle.dh_base.specs.Fields.{AreBytes}
use Rattle.ots_core.specs.Validity.{IsOtsValid}
use Rattle.key_ring.specs.declared.envelope.Envelope.{Envelope}
use Rattle.key_ring.specs.declared.said.Said.{Said}
use Rattle.key_ring.specs.declared.env_fault.EnvFault.{EnvFault}
use Rattle.key_ring.specs.declared.env_fault.EnvFault.TheVariants.{BadForm, BadRing, KeyOutside, BadSignature, NoMemory}
use Rattle.key_ring.specs.Rings.{Ring, ring_size_of, ring_of}
use Rattle.key_ring.specs.Saying.{HasRing, IsSignedBy, Says, IsKeyOutside, IsBadlySigned}
use Rattle.key_ring.specs.Answering.{IsAnswer, is_signed_by, said_with, said_of}
use Rattle.key_ring.proofs.RingTexts.{ring_of-text, sized, ring_in, text-ring_in, count-in, ident-in, key-in}

abbrev read : Ring → Result Ring ℕ
read ring = Ok ring

told : (env : Envelope) (h : HasRing env) → ring_of env.ring ≡ read h.ring
told env h = ap ring_of h.spelled ∙ ring_of-text h.ring h.formed

one_ring : (env : Envelope) (first second : HasRing env) → first.ring ≡ second.ring
one_ring env first second =
    let one = told env first in
    let other = told env second in
    cc

one_size : (env : Envelope) (first second : HasRing env) → length first.ring.keys ≡ length second.ring.keys
one_size env first second = ap (λ (r : Ring). length r.keys) (one_ring env first second)

formed_not_faulty : (env : Envelope) (at : ℕ) → HasRing env → ring_of env.ring ≡ Err at → ⊥
formed_not_faulty env at h fault =
    let formed = told env h in
    absurd cc

said_not_outside : (env : Envelope) (account message : List ℕ) (p q n : ℕ) → Says env account p message → IsKeyOutside env q n → ⊥
said_not_outside env account message p q n s o = omega (arith, one_size env s.has o.has, s.key, s.q_is, o.outside, o.q_is, o.n_is)

said_not_bad : (env : Envelope) (account message : List ℕ) (p : ℕ) → Says env account p message → IsBadlySigned env → ⊥
said_not_bad env account message p s b = b.not_signed (subst (λ (r : Ring). IsSignedBy r env) (one_ring env s.has b.has) s.signed)

outside_not_bad : (env : Envelope) (q n : ℕ) → IsKeyOutside env q n → IsBadlySigned env → ⊥
outside_not_bad env q n o b = omega (arith, one_size env b.has o.has, b.key, o.outside, o.q_is, o.n_is)

one_said : (env : Envelope) (first second : Said) → Says env first.account.0 first.q env.message → Says env second.account.0 second.q env.message → first ≡ second
one_said env first second s1 s2 =
    let account : first.account.0 ≡ second.account.0 = s1.account_is ∙ sym s2.account_is in
    let q : first.q ≡ second.q = s1.q_is ∙ sym s2.q_is in
    ap (λ (a : List ℕ). record { account = record { 0 = a }; q = first.q }) account ∙ ap (λ (k : ℕ). record { account = second.account; q = k }) q

one_outside : (env : Envelope) (p q m n : ℕ) → IsKeyOutside env p m → IsKeyOutside env q n → (p ≡ q) × (m ≡ n)
one_outside env p q m n o1 o2 = (o1.q_is ∙ sym o2.q_is, o1.n_is ∙ one_size env o1.has o2.has ∙ sym o2.n_is)

abbrev faulty : ℕ → Result Ring ℕ
faulty at = Err at

fault_is : (p q : ℕ) → faulty p ≡ faulty q → p ≡ q
fault_is p q e = cc

says_back : (env : Envelope) (r : Result Said EnvFault) (said : Said) → IsAnswer env r → Says env said.account.0 said.q env.message → r ≡ Ok said
says_back env (Ok other) said a s = ap (λ (x : Said). Ok x) (one_said env other said a s)
says_back env (Err (BadForm at)) said a s = absurd a
says_back env (Err (BadRing at)) said a s = absurd (formed_not_faulty env at s.has a)
says_back env (Err (KeyOutside q n)) said a s = absurd (said_not_outside env said.account.0 env.message said.q q n s a)
says_back env (Err BadSignature) said a s = absurd (said_not_bad env said.account.0 env.message said.q s a)
says_back env (Err NoMemory) said a s = absurd a

ring_back : (env : Envelope) (r : Result Said EnvFault) (at : ℕ) → IsAnswer env r → ring_of env.ring ≡ Err at → r ≡ Err (BadRing at)
ring_back env (Ok said) at a f = absurd (formed_not_faulty env at a.has f)
ring_back env (Err (BadForm p)) at a f = absurd a
ring_back env (Err (BadRing p)) at a f = (let same : p ≡ at = fault_is p at (sym a ∙ f) in ap (λ (k : ℕ). Err (BadRing k)) same)
ring_back env (Err (KeyOutside q n)) at a f = absurd (formed_not_faulty env at a.has f)
ring_back env (Err BadSignature) at a f = absurd (formed_not_faulty env at a.has f)
ring_back env (Err NoMemory) at a f = absurd a

outside_back : (env : Envelope) (r : Result Said EnvFault) (q n : ℕ) → IsAnswer env r → IsKeyOutside env q n → r ≡ Err (KeyOutside q n)
outside_back env (Ok said) q n a o = absurd (said_not_outside env said.account.0 env.message said.q q n a o)
outside_back env (Err (BadForm p)) q n a o = absurd a
outside_back env (Err (BadRing p)) q n a o = absurd (formed_not_faulty env p o.has a)
outside_back env (Err (KeyOutside p m)) q n a o = (let same = one_outside env p q m n a o in ap (λ (k : ℕ). Err (KeyOutside k m)) same.0 ∙ ap (λ (k : ℕ). Err (KeyOutside q k)) same.1)
outside_back env (Err BadSignature) q n a o = absurd (outside_not_bad env q n o a)
outside_back env (Err NoMemory) q n a o = absurd a

bad_back : (env : Envelope) (r : Result Said EnvFault) → IsAnswer env r → IsBadlySigned env → r ≡ Err BadSignature
bad_back env (Ok said) a b = absurd (said_not_bad env said.account.0 env.message said.q a b)
bad_back env (Err (BadForm p)) a b = absurd a
bad_back env (Err (BadRing p)) a b = absurd (formed_not_faulty env p b.has a)
bad_back env (Err (KeyOutside p m)) a b = absurd (outside_not_bad env p m a b)
bad_back env (Err BadSignature) a b = refl
bad_back env (Err NoMemory) a b = absurd a

pub says_both : (env : Envelope) (r : Result Said EnvFault) → IsAnswer env r → (said : Said) → (r ≡ Ok said) ↔ Says env said.account.0 said.q env.message
says_both env r a said = (λ e. subst (IsAnswer env) e a, says_back env r said a)

pub ring_both : (env : Envelope) (r : Result Said EnvFault) → IsAnswer env r → (at : ℕ) → (r ≡ Err (BadRing at)) ↔ (ring_of env.ring ≡ Err at)
ring_both env r a at = (λ e. subst (IsAnswer env) e a, ring_back env r at a)

pub outside_both : (env : Envelope) (r : Result Said EnvFault) → IsAnswer env r → (q n : ℕ) → (r ≡ Err (KeyOutside q n)) ↔ IsKeyOutside env q n
outside_both env r a q n = (λ e. subst (IsAnswer env) e a, outside_back env r q n a)

pub bad_both : (env : Envelope) (r : Result Said EnvFault) → IsAnswer env r → (r ≡ Err BadSignature) ↔ IsBadlySigned env
bad_both env r a = (λ e. subst (IsAnswer env) e a, bad_back env r a)

-- ---- the answer as it is computed

-- what is said of a ring that is known
with_ring : (env : Envelope) (h : HasRing env) → said_of env ≡ said_with env (read h.ring)
with_ring env h = ap (said_with env) (told env h)

key_stands : (env : Envelope) (ring : Ring) (signed : Bool) → env.q < length ring.keys → is_signed_by ring env ≡ signed → said_with env (read ring) ≡ cond signed (Ok (record { account = record { 0 = sha256 env.ring }; q = env.q })) (Err BadSignature)
key_stands env ring signed key is = rw (lt-leb (length ring.keys) env.q key, is) refl

is_signed : (env : Envelope) (ring : Ring) → IsSignedBy ring env → is_signed_by ring env ≡ true
is_signed env ring signed = (bytes_eq-Decides _ _).1 signed

not_signed : (env : Envelope) (ring : Ring) → (IsSignedBy ring env → ⊥) → is_signed_by ring env ≡ false
not_signed env ring unsigned = here (is_signed_by ring env) refl
  where
    here : (b : Bool) → is_signed_by ring env ≡ b → b ≡ false
    here true e = absurd (unsigned ((bytes_eq-Decides _ _).0 e))
    here false e = refl

said_same : (env : Envelope) (said : Said) (account : List ℕ) → said.account.0 ≡ account → said.q ≡ env.q → record { account = record { 0 = account }; q = env.q } ≡ said
said_same env said account a q = ap (λ (b : List ℕ). record { account = record { 0 = b }; q = env.q }) (sym a) ∙ ap (λ (k : ℕ). record { account = said.account; q = k }) (sym q)

outside_told : (env : Envelope) (ring : Ring) (q n : ℕ) → nat_le (length ring.keys) env.q ≡ true → q ≡ env.q → n ≡ length ring.keys → said_with env (read ring) ≡ Err (KeyOutside q n)
outside_told env ring q n out a b = rw out (ap (λ (k : ℕ). Err (KeyOutside k (length ring.keys))) (sym a) ∙ ap (λ (k : ℕ). Err (KeyOutside q k)) (sym b))

pub answer_is : (env : Envelope) (r : Result Said EnvFault) → IsAnswer env r → r ≡ said_of env
answer_is env (Ok said) a =
    sym (with_ring env a.has ∙ key_stands env a.has.ring true (let k = a.key in let q = a.q_is in omega (arith, k, q)) (is_signed env a.has.ring a.signed) ∙ ap (λ (s : Said). Ok s) (said_same env said (sha256 env.ring) a.account_is a.q_is))
answer_is env (Err (BadForm at)) a = absurd a
answer_is env (Err (BadRing at)) a = sym (ap (said_with env) a)
answer_is env (Err (KeyOutside q n)) a =
    let out : nat_le (length a.has.ring.keys) env.q ≡ true = le-leb (length a.has.ring.keys) env.q (let o = a.outside in let q = a.q_is in let n = a.n_is in omega (arith, o, q, n)) in
    sym (with_ring env a.has ∙ outside_told env a.has.ring q n out a.q_is a.n_is)
answer_is env (Err BadSignature) a =
    sym (with_ring env a.has ∙ key_stands env a.has.ring false a.key (not_signed env a.has.ring a.not_signed))
answer_is env (Err NoMemory) a = absurd a

-- ---- what is known where a check ends

ring_there : (env : Envelope) (text : List ℕ) (n : ℕ) → AreBytes text → env.ring ≡ text → ring_size_of text ≡ Ok n → HasRing env
ring_there env text n are e size =
    let formed = text-ring_in text n are (sized text n size) in
    record { ring = ring_in n text; formed = formed.0; spelled = e ∙ formed.1 }

pub outside-made : (env : Envelope) (text : List ℕ) (n : ℕ) → AreBytes text → env.ring ≡ text → ring_size_of text ≡ Ok n → n ≤ env.q → IsKeyOutside env env.q n
unfolding ring_there
outside-made env text n are e size outside = record { has = ring_there env text n are e size; q_is = refl; n_is = sym (count-in n text); outside = outside }

-- the signature is valid under the key that stands at its place
pub IsValidAt : Envelope → List ℕ → Type 0
IsValidAt env text = IsOtsValid (take 16 (drop 8 text)) env.q (take 32 (drop (26 + 32 * env.q) text)) env.message env.sig

valid : (env : Envelope) (i j k l : List ℕ) → i ≡ j → k ≡ l → IsOtsValid i env.q k env.message env.sig → IsOtsValid j env.q l env.message env.sig
valid env i j k l e f h = subst (λ (x : List ℕ). IsOtsValid x env.q l env.message env.sig) e (subst (λ (x : List ℕ). IsOtsValid i env.q x env.message env.sig) f h)

pub IsValidAt-from : (env : Envelope) (text i k m : List ℕ) → i ≡ take 16 (drop 8 text) → k ≡ take 32 (drop (26 + 32 * env.q) text) → m ≡ env.message → IsOtsValid i env.q k m env.sig → IsValidAt env text
unfolding IsValidAt
IsValidAt-from env text i k m e f g h = valid env i (take 16 (drop 8 text)) k (take 32 (drop (26 + 32 * env.q) text)) e f (subst (λ (x : List ℕ). IsOtsValid i env.q k x env.sig) g h)

pub IsValidAt-to : (env : Envelope) (text i k m : List ℕ) → i ≡ take 16 (drop 8 text) → k ≡ take 32 (drop (26 + 32 * env.q) text) → m ≡ env.message → IsValidAt env text → IsOtsValid i env.q k m env.sig
unfolding IsValidAt
IsValidAt-to env text i k m e f g h = subst (λ (x : List ℕ). IsOtsValid i env.q k x env.sig) (sym g) (valid env (take 16 (drop 8 text)) i (take 32 (drop (26 + 32 * env.q) text)) k (sym e) (sym f) h)

pub bad-made : (env : Envelope) (text : List ℕ) (n : ℕ) → AreBytes text → env.ring ≡ text → ring_size_of text ≡ Ok n → env.q < n → (IsValidAt env text → ⊥) → IsBadlySigned env
unfolding IsValidAt ring_there
bad-made env text n are e size key not_valid =
    let count = count-in n text in
    record {
      has = ring_there env text n are e size;
      key = omega (arith, count);
      not_signed = λ h. not_valid (valid env (ring_in n text).ident (take 16 (drop 8 text)) (get_or (ring_in n text).keys env.q []) (take 32 (drop (26 + 32 * env.q) text)) (ident-in n text) (key-in n text env.q key) h);
    }

pub says-made : (env : Envelope) (text account : List ℕ) (n : ℕ) → AreBytes text → env.ring ≡ text → ring_size_of text ≡ Ok n → env.q < n → IsValidAt env text → account ≡ sha256 text → Says env account env.q env.message
unfolding IsValidAt ring_there
says-made env text account n are e size key is_valid hash =
    let count = count-in n text in
    record {
      has = ring_there env text n are e size;
      account_is = hash ∙ ap sha256 (sym e);
      q_is = refl;
      key = omega (arith, count);
      message_is = refl;
      signed = valid env (take 16 (drop 8 text)) (ring_in n text).ident (take 32 (drop (26 + 32 * env.q) text)) (get_or (ring_in n text).keys env.q []) (sym (ident-in n text)) (sym (key-in n text env.q key)) is_valid;
    }
