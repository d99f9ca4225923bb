-- What a store in memory answers, by its count of faults.
use Rattle.std.proofs.Common.{◌≡◌, ℕ, ◌^◌, ◌<◌, ◌⊎◌, inl, inr, true, false, List, Option, Some, None, Result, Ok, Err, OnOk, Vec, Global, refl, sym, ap, cond, arith, rules}
use Rattle.std.specs.FinMap as finite
use Rattle.outside.specs.Answers.{ReadAnswers, WriteAnswers, FaultAt, IsNamed, one_more}
use Rattle.outside.specs.Files.{Files}
use Rattle.outside.specs.Schedule.{Schedule, is_next_listed, after_call}
use Rattle.outside.specs.declared.StoreErr.{StoreErr}
use Rattle.outside.specs.declared.StoreErr.TheVariants.{Failed}

never_rose : {A : Type 0} {last : Option (List ℕ)} {name : List ℕ} → A ⊎ FaultAt 0 0 last name → A
never_rose a = elim a [ inl x ↦ x | inr r ↦ (let rose = r.0 in absurd (omega (arith, rose))) ]

-- an answer of a store that has never failed is one at each count and each name that stay
pub read_at_count : {told : Option Files} {name : List ℕ} {limit : ℕ} {result : Result (Vec ℕ Global) StoreErr} → ReadAnswers told 0 0 None None name limit result → (n : ℕ) (last : Option (List ℕ)) → n < 2 ^ 64
    → ReadAnswers told n n last last name limit result
read_at_count {result = result} a n last lt =
    record {
      never_falls = omega arith;
      bounded = lt;
      bytes = a.bytes;
      within = a.within;
      absent = λ is. inl (never_rose (a.absent is));
      too_long = λ is. inl (never_rose (a.too_long is));
      failed = λ is. (let rose = (a.failed is).0 in absurd (omega (arith, rose)));
      named = inl refl;
      ok = stays result;
      memory = λ _. (refl, refl);
    }
  where
    stays : (r : Result (Vec ℕ Global) StoreErr) → OnOk r (last ≡ last)
    stays (Ok v) = refl
    stays (Err e) = tt

pub faults_unlisted : (s : Schedule) → false ≡ is_next_listed s → (after_call s).faults ≡ s.faults
faults_unlisted s is = ap (λ b. cond b (one_more s.faults) s.faults) (sym is)

pub faults_listed : (s : Schedule) → true ≡ is_next_listed s → (after_call s).faults ≡ one_more s.faults
faults_listed s is = ap (λ b. cond b (one_more s.faults) s.faults) (sym is)

-- a call that fails and changes no file
pub write_failed : (files left : Files) (name bytes : List ℕ) (n now : ℕ) (was last : Option (List ℕ)) → n < 2 ^ 64 → left ≡ files → now ≡ one_more n → IsNamed last name
    → WriteAnswers (Some files) (Some left) n now was last name bytes (Err Failed)
write_failed files left name bytes n now was last lt same is named =
    record {
      never_falls = omega arith;
      bounded = omega arith;
      ok = tt;
      failed = λ _. (omega arith, named);
      named = tt;
      others = λ _. (left, refl, λ other _. ap (λ m. finite.get m other) same);
      memory = search rules;
      never_absent = search rules;
      never_too_long = search rules;
    }
