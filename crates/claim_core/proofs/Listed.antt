-- Values that are taken one behind the other, with some of them taken already.
use Rattle.std.proofs.Common.{◌≡◌, ℕ, ◌+◌, ◌-◌, ◌<◌, ◌≤◌, suc, List, [], ◌∷◌, ◌++◌, Result, Ok, Err, IfOk, refl, sym, ap, subst, ◌∙◌, append_assoc, arith}
use Rattle.std.proofs.lemmas.List.{append-nil}
use Rattle.dh_base.specs.Fields.{◌>>=◌}
use Rattle.dh_base.specs.Formats.{next_values}
use Rattle.claim_core.specs.declared.read_claim_fault.ReadClaimFault.{ReadClaimFault}
use Rattle.claim_core.specs.declared.read_claim_fault.ReadClaimFault.TheVariants.{BadForm, NoMemory}
use Rattle.claim_core.specs.ClaimReading.{Gives}

abbrev Taken : Type 0 → Type 0
Taken A = List ℕ → ℕ → Result (A × ℕ) ReadClaimFault

-- behind the values that are taken
abbrev pub behind : {A : Type 0} → List A → List A × ℕ → Result (List A × ℕ) ReadClaimFault
behind values rest = Ok (values ++ rest.0, rest.1)

-- all of the values, of which some are taken and the rest are to come
abbrev pub AreTaken : {A : Type 0} → (List ℕ → ℕ → Result (A × ℕ) ReadClaimFault) → ℕ → List ℕ → ℕ → ℕ → List A → ℕ → Type 0
AreTaken taken count bytes at number values next =
    next_values taken count bytes at ≡ (next_values taken (count - number) bytes next >>= behind values)

behind_none : {A : Type 0} (r : Result (List A × ℕ) ReadClaimFault) → r ≡ (r >>= behind [])
behind_none (Ok rest) = refl
behind_none (Err fault) = refl

pub begins : {A : Type 0} (taken : Taken A) (count : ℕ) (bytes : List ℕ) (at : ℕ) → AreTaken taken count bytes at 0 [] at
begins taken count bytes at =
    let all : count - 0 ≡ count = omega arith in
    behind_none (next_values taken count bytes at) ∙ ap (λ (n : ℕ). next_values taken n bytes at >>= behind []) (sym all)

abbrev first_of : {A : Type 0} → A → List A × ℕ → Result (List A × ℕ) ReadClaimFault
first_of first rest = Ok (first ∷ rest.0, rest.1)

behind_more : {A : Type 0} (values : List A) (x : A) (r : Result (List A × ℕ) ReadClaimFault) → ((r >>= first_of x) >>= behind values) ≡ (r >>= behind (values ++ x ∷ []))
behind_more {A} values x (Ok rest) = (let made : List A → Result (List A × ℕ) ReadClaimFault = λ xs. Ok (xs, rest.1) in ap made (sym (append_assoc values (x ∷ []) rest.0)))
behind_more values x (Err fault) = refl

one_more : {A : Type 0} (taken : Taken A) (n : ℕ) (bytes : List ℕ) (next : ℕ) (values : List A) (x : A) (after : ℕ) → taken bytes next ≡ Ok (x, after) → (next_values taken (suc n) bytes next >>= behind values) ≡ (next_values taken n bytes after >>= behind (values ++ x ∷ []))
one_more taken n bytes next values x after is =
    ap (λ r. (r >>= λ first. next_values taken n bytes first.1 >>= first_of first.0) >>= behind values) is
    ∙ behind_more values x (next_values taken n bytes after)

-- one value more is taken
pub more : {A : Type 0} (taken : Taken A) (count : ℕ) (bytes : List ℕ) (at number : ℕ) (values : List A) (next : ℕ) (x : A) (after : ℕ) → number < count → taken bytes next ≡ Ok (x, after) → AreTaken taken count bytes at number values next → AreTaken taken count bytes at (number + 1) (values ++ x ∷ []) after
more taken count bytes at number values next x after less is so_far =
    let left : count - number ≡ suc (count - (number + 1)) = omega arith in
    so_far ∙ (ap (λ (n : ℕ). next_values taken n bytes next >>= behind values) left ∙ one_more taken (count - (number + 1)) bytes next values x after is)

failed_at : {A : Type 0} (taken : Taken A) (n : ℕ) (bytes : List ℕ) (next : ℕ) (values : List A) (fault : ReadClaimFault) → taken bytes next ≡ Err fault → (next_values taken (suc n) bytes next >>= behind values) ≡ Err fault
failed_at taken n bytes next values fault is =
    ap (λ r. (r >>= λ first. next_values taken n bytes first.1 >>= first_of first.0) >>= behind values) is

-- the next value isn't taken
fails : {A : Type 0} (taken : Taken A) (count : ℕ) (bytes : List ℕ) (at number : ℕ) (values : List A) (next : ℕ) (fault : ReadClaimFault) → number < count → taken bytes next ≡ Err fault → AreTaken taken count bytes at number values next → next_values taken count bytes at ≡ Err fault
fails taken count bytes at number values next fault less is so_far =
    let left : count - number ≡ suc (count - (number + 1)) = omega arith in
    so_far ∙ (ap (λ (n : ℕ). next_values taken n bytes next >>= behind values) left ∙ failed_at taken (count - (number + 1)) bytes next values fault is)

gives_fault : {A : Type 0} (taken : Taken A) (count : ℕ) (bytes : List ℕ) (at number : ℕ) (values : List A) (next : ℕ) (fault : ReadClaimFault) → number < count → Gives (Err fault) (taken bytes next) → AreTaken taken count bytes at number values next → Gives (Err fault) (next_values taken count bytes at)
gives_fault taken count bytes at number values next (BadForm place) less given so_far = fails taken count bytes at number values next (BadForm place) less given so_far
gives_fault taken count bytes at number values next NoMemory less given so_far = tt

pub gives_err : {A : Type 0} (taken : Taken A) (count : ℕ) (bytes : List ℕ) (at number : ℕ) (values : List A) (next : ℕ) (fault : ReadClaimFault) (r : Result (List A × ℕ) ReadClaimFault) → number < count → r ≡ Err fault → Gives (Err fault) (taken bytes next) → AreTaken taken count bytes at number values next → Gives r (next_values taken count bytes at)
gives_err {A} taken count bytes at number values next fault r less is given so_far =
    subst (λ (x : Result (List A × ℕ) ReadClaimFault). Gives x (next_values taken count bytes at)) (sym is) (gives_fault taken count bytes at number values next fault less given so_far)

pub given_fault : {A : Type 0} (fault : ReadClaimFault) (r : Result A ReadClaimFault) → r ≡ Err fault → Gives (Err fault) r
given_fault (BadForm at) r e = e
given_fault NoMemory r e = tt

-- all are taken
pub ends : {A : Type 0} (taken : Taken A) (count : ℕ) (bytes : List ℕ) (at number : ℕ) (values : List A) (next : ℕ) → count ≤ number → AreTaken taken count bytes at number values next → next_values taken count bytes at ≡ Ok (values, next)
ends {A} taken count bytes at number values next le so_far =
    let none : count - number ≡ 0 = omega arith in
    let made : List A → Result (List A × ℕ) ReadClaimFault = λ xs. Ok (xs, next) in
    so_far ∙ (ap (λ (n : ℕ). next_values taken n bytes next >>= behind values) none ∙ ap made (append-nil values))

-- ---- what a call answers

pub IfOk-given : {A : Type 0} (P : A → Type 0) (r read : Result A ReadClaimFault) → ((x : A) → read ≡ Ok x → P x) → Gives r read → IfOk r P
IfOk-given P (Ok x) read found given = found x given
IfOk-given P (Err fault) read found given = tt

pub Gives-same : {A : Type 0} (r read other : Result A ReadClaimFault) → read ≡ other → Gives r read → Gives r other
Gives-same {A} r read other same given = subst (λ (x : Result A ReadClaimFault). Gives r x) same given
