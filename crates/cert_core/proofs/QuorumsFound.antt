-- Signatures of which none is at fault vouch, where the texts of rings are bytes.
use Rattle.std.proofs.Common.{◌≡◌, ℕ, ◌↔◌, Bool, true, false, not, cond, nat_le, ltb, List, [], ◌∷◌, ◌++◌, length, Option, Some, None, Result, Ok, Err, refl, sym, ap, subst, ◌∙◌}
use Rattle.std.specs.List.{AllByRecursion}
use Rattle.std.specs.Str.{bytes_eq}
use Rattle.std.proofs.lemmas.Bool.{leb-false, ltb-false, le-ltb}
use Rattle.std.proofs.lemmas.Slice.Eq.{bytes_eq-Decides}
use Rattle.sha2.specs.Sha256.{sha256}
use Rattle.dh_base.specs.declared.id.Id.{Id}
use Rattle.dh_base.specs.Fields.{AreBytes}
use Rattle.dh_base.specs.Ids.{same_id}
use Rattle.dh_base.proofs.SameIds.{id_from_same}
use Rattle.key_ring.specs.declared.envelope.Envelope.{Envelope}
use Rattle.key_ring.specs.declared.env_fault.EnvFault.{EnvFault}
use Rattle.key_ring.specs.declared.env_fault.EnvFault.TheVariants.{KeyOutside, BadSignature}
use Rattle.key_ring.specs.declared.said.Said.{Said}
use Rattle.key_ring.specs.Rings.{Ring, ring_of}
use Rattle.key_ring.specs.Saying.{Says}
use Rattle.key_ring.specs.Answering.{is_signed_by, said_with, said_of}
use Rattle.key_ring.proofs.RingTexts.{text-ring_of}
use Rattle.cert_core.specs.declared.quorum_fault.QuorumFault.{QuorumFault}
use Rattle.cert_core.specs.declared.quorum_fault.QuorumFault.TheVariants.{SeatOutside, SeatTwice, NotItsRing, OtherText, TooFew}
use Rattle.cert_core.specs.declared.seat_sig.SeatSig.{SeatSig}
use Rattle.cert_core.specs.Sets.{SetTold}
use Rattle.cert_core.specs.Quorums.{account_of, quorum_size, SaysAs, Vouches, IsQuorum, HaveByteRings, has_seat, said_fault, sig_fault, first_fault, too_few, quorum_fault, quorum_of, or_counted}
use Rattle.cert_core.proofs.SeatSigs.{parts, no_fault, quorum_there}

passed : {A F : Type 0} (b : Bool) (d : F) (r : Result A F) (y : A) → cond b (Err d) r ≡ Ok y → (b ≡ false) × (r ≡ Ok y)
passed true d r y e = absurd cc
passed false d r y e = (refl, e)

ended : {A F : Type 0} (b : Bool) (x y : A) (d : F) → cond b (Ok x) (Err d) ≡ Ok y → (b ≡ true) × (x ≡ y)
ended true x y d e = (refl, cc)
ended false x y d e = absurd cc

-- what is said of a ring that was read
abbrev by_ring : Envelope → Said
by_ring env = record { account = record { 0 = sha256 env.ring }; q = env.q }

said_says : (env : Envelope) (said : Said) → AreBytes env.ring → said_of env ≡ Ok said → Says env said.account.0 said.q env.message
said_says env said are e = here (ring_of env.ring) refl e
  where
    here : (r : Result Ring ℕ) → ring_of env.ring ≡ r → said_with env r ≡ Ok said → Says env said.account.0 said.q env.message
    here (Err at) is e = absurd cc
    here (Ok ring) is e =
        let formed = text-ring_of env.ring ring are is in
        let a = passed (nat_le (length ring.keys) env.q) (KeyOutside env.q (length ring.keys)) (cond (is_signed_by ring env) (Ok (by_ring env)) (Err BadSignature)) said e in
        let b = ended (is_signed_by ring env) (by_ring env) said BadSignature a.1 in
        subst (λ (s : Said). Says env s.account.0 s.q env.message) b.1
        (record {
          has = record { ring = ring; formed = formed.0; spelled = formed.1 };
          account_is = refl;
          q_is = refl;
          key = leb-false (length ring.keys) env.q a.0;
          message_is = refl;
          signed = (bytes_eq-Decides _ _).0 b.0;
        })

none_if : {F : Type 0} (b : Bool) (fault : F) (rest : Option F) → cond b (Some fault) rest ≡ None → (b ≡ false) × (rest ≡ None)
none_if true fault rest e = absurd cc
none_if false fault rest e = (refl, e)

is_true : (b : Bool) → not b ≡ false → b ≡ true
is_true true e = refl
is_true false e = absurd cc

says_as : (account : Id) (text : List ℕ) (sig : SeatSig) → AreBytes sig.env.ring → said_fault account text sig (said_of sig.env) ≡ None → SaysAs account text sig.env
says_as account text sig are e = here (said_of sig.env) refl e
  where
    here : (r : Result Said EnvFault) → said_of sig.env ≡ r → said_fault account text sig r ≡ None → SaysAs account text sig.env
    here (Err fault) is e = absurd cc
    here (Ok said) is e =
        let a = none_if (not (same_id said.account account)) (NotItsRing sig.seat) (cond (not (bytes_eq sig.env.message text)) (Some (OtherText sig.seat)) None) e in
        let b = none_if (not (bytes_eq sig.env.message text)) (OtherText sig.seat) None a.1 in
        let same : said.account ≡ account = id_from_same said.account account (is_true (same_id said.account account) a.0) in
        let message : sig.env.message ≡ text = (bytes_eq-Decides sig.env.message text).0 (is_true (bytes_eq sig.env.message text) b.0) in
        let says = said_says sig.env said are is in
        let under : Says sig.env account.0 said.q sig.env.message = subst (λ (i : Id). Says sig.env i.0 said.q sig.env.message) same says in
        record { q = said.q; says = subst (λ (t : List ℕ). Says sig.env account.0 said.q t) message under }

vouches : (accounts : List Id) (text : List ℕ) (before : List SeatSig) (sig : SeatSig) → AreBytes sig.env.ring → sig_fault accounts text before sig ≡ None → Vouches accounts text sig
vouches accounts text before sig are e =
    let a = none_if (nat_le (length accounts) sig.seat) (SeatOutside sig.seat) (cond (has_seat before sig.seat) (Some (SeatTwice sig.seat)) (said_fault (account_of accounts sig.seat) text sig (said_of sig.env))) e in
    let b = none_if (has_seat before sig.seat) (SeatTwice sig.seat) (said_fault (account_of accounts sig.seat) text sig (said_of sig.env)) a.1 in
    says_as (account_of accounts sig.seat) text sig are b.1

all_vouch : (accounts : List Id) (text : List ℕ) (before sigs : List SeatSig) → HaveByteRings sigs → first_fault accounts text before sigs ≡ None → AllByRecursion (Vouches accounts text) sigs
all_vouch accounts text before [] are e = tt
all_vouch accounts text before (sig ∷ sigs) are e =
    let p = parts (sig_fault accounts text before sig) (first_fault accounts text (before ++ sig ∷ []) sigs) e in
    (vouches accounts text before sig are.0 p.0, all_vouch accounts text (before ++ sig ∷ []) sigs are.1 p.1)

was_none : (counted n : ℕ) (fault : Option QuorumFault) → or_counted counted fault ≡ Ok n → (fault ≡ None) × (counted ≡ n)
was_none counted n None e = (refl, cc)
was_none counted n (Some fault) e = absurd cc

quorum_back : (set : SetTold) (text : List ℕ) (sigs : List SeatSig) (n : ℕ) → HaveByteRings sigs → quorum_of set text sigs ≡ Ok n → IsQuorum set text sigs × (n ≡ length sigs)
quorum_back set text sigs n are e =
    let w = was_none (length sigs) n (quorum_fault set text sigs) e in
    let p = parts (first_fault set.seats text [] sigs) (too_few set (length sigs)) w.0 in
    let few = none_if (ltb (length sigs) (quorum_size set)) (TooFew (length sigs) (quorum_size set)) None p.1 in
    (quorum_there set text sigs p.0 (all_vouch set.seats text [] sigs are p.0) (ltb-false (length sigs) (quorum_size set) few.0), sym w.1)

counted : (set : SetTold) (text : List ℕ) (sigs : List SeatSig) → IsQuorum set text sigs → quorum_of set text sigs ≡ Ok (length sigs)
counted set text sigs q =
    let enough : ltb (length sigs) (quorum_size set) ≡ false = le-ltb (length sigs) (quorum_size set) q.enough in
    rw (no_fault set text sigs q, enough) refl

pub quorum_found : (set : SetTold) (text : List ℕ) (sigs : List SeatSig) (n : ℕ) → HaveByteRings sigs → (quorum_of set text sigs ≡ Ok n) ↔ (IsQuorum set text sigs × (n ≡ length sigs))
quorum_found set text sigs n are =
    (quorum_back set text sigs n are, λ (q, is). counted set text sigs q ∙ (let made : ℕ → Result ℕ QuorumFault = λ k. Ok k in ap made (sym is)))
