-- Which texts are names, by the count of the characters from the front on that a name may have.
use Rattle.std.proofs.Common.{◌≡◌, ℕ, suc, ◌+◌, ◌<◌, ◌≤◌, Bool, true, false, ◌&&◌, nat_le, List, [], ◌∷◌, ◌++◌, length, take, drop, replicate, min, Ok, Err, refl, ◌∙◌, arith, inl, inr, IsTrue}
use Rattle.std.specs.List.{list_all, prefix_len}
use Rattle.std.proofs.lemmas.Bool.{and_parts, and_from, cases_Bool, leb-true, le-leb}
use Rattle.std.proofs.lemmas.List.{take_at, drop_at, drop-replicate, length-append, length-drop, length-replicate}
use Rattle.std.proofs.lemmas.List.Sums.{prefix_len-le-length}
use Rattle.dh_base.specs.Names.{is_name_byte, begins_with_letter, is_name}
use Rattle.dh_base.specs.NameRead.{name_of}
use Rattle.dh_base.specs.NameShape.{IsPadded}
use Rattle.dh_base.specs.declared.base_fault.BaseFault.TheVariants.{BadName}

prefix_len_all : (p : ℕ → Bool) (text : List ℕ) → list_all p text ≡ true → prefix_len p text ≡ length text
prefix_len_all p [] e = refl
prefix_len_all p (c ∷ cs) e =
    let h = and_parts (p c) (list_all p cs) e in
    rw h.0 (omega (arith, prefix_len_all p cs h.1))

list_all_from_prefix : (p : ℕ → Bool) (text : List ℕ) → length text ≤ prefix_len p text → list_all p text ≡ true
list_all_from_prefix p [] h = refl
list_all_from_prefix p (c ∷ cs) h =
    elim (cases_Bool (p c)) [
      | inl passes ↦ and_from (p c) (list_all p cs) passes (list_all_from_prefix p cs (let k : suc (length cs) ≤ 1 + prefix_len p cs = rw passes at h in omega arith))
      | inr fails ↦ let k : suc (length cs) ≤ 0 = rw fails at h in absurd (omega arith)
    ]

pub is_name-from_count : (text : List ℕ) (good : ℕ) → begins_with_letter text ≡ true → good ≡ min 16 (prefix_len is_name_byte text) → length text ≤ good → is_name text ≡ true
is_name-from_count text good letter count all =
    and_from (begins_with_letter text) (list_all is_name_byte text && nat_le (length text) 16) letter
    (and_from (list_all is_name_byte text) (nat_le (length text) 16) (list_all_from_prefix is_name_byte text (omega arith)) (le-leb (length text) 16 (omega arith)))

not_name-from_count : (text : List ℕ) (good : ℕ) → good ≡ min 16 (prefix_len is_name_byte text) → good < length text → is_name text ≡ false
not_name-from_count text good count short =
    elim (cases_Bool (is_name text)) [
      | inl passes ↦
          let rest = (and_parts (begins_with_letter text) (list_all is_name_byte text && nat_le (length text) 16) passes).1 in
          let parts = and_parts (list_all is_name_byte text) (nat_le (length text) 16) rest in
          absurd (omega (arith, prefix_len_all is_name_byte text parts.0, leb-true (length text) 16 parts.1))
      | inr fails ↦ fails
    ]

pub name_of-good : (text : List ℕ) → is_name text ≡ true → name_of text ≡ Ok text
name_of-good text e = rw e refl

pub name_of-bad : (text : List ℕ) (good : ℕ) → begins_with_letter text ≡ true → good ≡ min 16 (prefix_len is_name_byte text) → good < length text → name_of text ≡ Err (BadName good)
name_of-bad text good letter count short = rw (not_name-from_count text good count short, letter, ← count) refl

pub IsPadded-made : (text : List ℕ) (good : ℕ) → length text ≡ good → good ≤ 16 → IsTrue (is_name text) → IsPadded (record { chars = text ++ drop good (replicate 16 0); len = good })
IsPadded-made text good len few name =
    let zero_byte : ℕ = 0 in
    let zeros : List ℕ = replicate 16 0 in record {
      name = rw (take_at text (drop good (replicate 16 0)) good len) name;
      fits = few;
      places = omega (arith, length-append text (drop good zeros), length-replicate 16 zero_byte, length-drop good zeros);
      zeros = drop_at text (drop good (replicate 16 0)) good len ∙ drop-replicate good 16 zero_byte;
    }

pub length_is-good : (text : List ℕ) (good : ℕ) → good ≡ min 16 (prefix_len is_name_byte text) → length text ≤ good → length text ≡ good
length_is-good text good count all = omega (arith, prefix_len-le-length is_name_byte text)

pub take-made : (text : List ℕ) (good : ℕ) → length text ≡ good → take good (text ++ drop good (replicate 16 0)) ≡ text
take-made text good len = take_at text (drop good (replicate 16 0)) good len
