-- What the list of an image claims is what was listed.
use Rattle.std.proofs.Common.{◌≡◌, ℕ, Bool, true, false, List, [], ◌∷◌, ◌++◌, map, filter_map, refl, ap, ◌∙◌, Option, Some, None, cond, find, is_some, eqb, ◌||◌}
use Rattle.std.specs.Prelude.{nat_eq}
use Rattle.std.specs.List.{cons_option}
use Rattle.std.specs.Map.{lookup}
use Rattle.std.specs.Option.{option_map}
use Rattle.std.proofs.lemmas.List.Elements.{filter_map-append}
use Rattle.std.proofs.Common.{append-nil}
use mathlib.Core.Path.{fun_ext}
use Rattle.rv_word.specs.Meaning.{meaning}
use Rattle.dist_image.specs.Image.{Premise, Targets, Dead, Code, Within, Span, Same}
use Rattle.layout_rules.specs.declared.SlotPlan.{SlotPlan}
use Rattle.layout_rules.specs.Images.{values}
use Rattle.distill_rules.specs.declared.Mask.{Mask}
use Rattle.distill_fits.proofs.Sites.{plot_at}
use Rattle.distill_fits.proofs.Valued.{none_of_values, same_of_values, value_of}
use Rattle.profile_data.specs.Profile.{Tally}
use Rattle.fitting.specs.Claims.{among, as_cut, as_targets, as_dead, as_same, claims_in}
use Rattle.distill_rules.specs.Analysed.{analysed, analysed_row}
use Rattle.distill_rules.specs.Cuts.{Cuts}
use Rattle.distill_rules.specs.Flow.{site, graph, targets_by, claims}
use Rattle.distill_fits.proofs.Looked.{pairs, look_all}
use Rattle.layout_rules.specs.Images.{cut_premise, targets_premise, listed}

-- ---- each kind alone

abbrev closing : List Premise
closing = Code ∷ Within ∷ Span ∷ []

cuts_of_cuts : (es : List (ℕ × Bool)) → filter_map as_cut (map cut_premise es) ≡ es
cuts_of_cuts [] = refl
cuts_of_cuts (e ∷ es) = ap (λ xs. e ∷ xs) (cuts_of_cuts es)

targets_of_cuts : (es : List (ℕ × Bool)) → filter_map as_targets (map cut_premise es) ≡ []
targets_of_cuts [] = refl
targets_of_cuts (e ∷ es) = targets_of_cuts es

dead_of_cuts : (es : List (ℕ × Bool)) → filter_map as_dead (map cut_premise es) ≡ []
dead_of_cuts [] = refl
dead_of_cuts (e ∷ es) = dead_of_cuts es

cuts_of_dead : (pcs : List ℕ) → filter_map as_cut (map Dead pcs) ≡ []
cuts_of_dead [] = refl
cuts_of_dead (pc ∷ pcs) = cuts_of_dead pcs

targets_of_dead : (pcs : List ℕ) → filter_map as_targets (map Dead pcs) ≡ []
targets_of_dead [] = refl
targets_of_dead (pc ∷ pcs) = targets_of_dead pcs

dead_of_dead : (pcs : List ℕ) → filter_map as_dead (map Dead pcs) ≡ pcs
dead_of_dead [] = refl
dead_of_dead (pc ∷ pcs) = ap (λ xs. pc ∷ xs) (dead_of_dead pcs)

same_of_cuts : (es : List (ℕ × Bool)) → filter_map as_same (map cut_premise es) ≡ []
same_of_cuts [] = refl
same_of_cuts (e ∷ es) = same_of_cuts es

same_of_dead : (pcs : List ℕ) → filter_map as_same (map Dead pcs) ≡ []
same_of_dead [] = refl
same_of_dead (pc ∷ pcs) = same_of_dead pcs

-- what is looked for is found where it is among these
pub found_among : (ws : List ℕ) (q : ℕ) → is_some (find (λ w. eqb w q) ws) ≡ among ws q
found_among [] q = refl
found_among (n ∷ ns) q = at_first (eqb n q) (find (λ w. eqb w q) ns) (found_among ns q)
  where
    at_first : (b : Bool) (o : Option ℕ) → is_some o ≡ among ns q → is_some (cond b (Some n) o) ≡ (b || among ns q)
    at_first true o rest = refl
    at_first false o rest = rest

abbrev pub targets_of : (ℕ → ℕ) → List Tally → ℕ → Option (List ℕ)
targets_of word rows pc = targets_by (meaning (word pc)) (analysed_row rows pc)

module _ (word : ℕ → ℕ) (rows : List Tally) (c : Cuts) where
  abbrev targets_at : ℕ → Option (List ℕ)
  targets_at pc = targets_of word rows pc

  abbrev pub target_premises : List ℕ → List Premise
  target_premises pcs = filter_map (targets_premise rows) (map (site word rows c) pcs)

  cuts_of_targets : (pcs : List ℕ) → filter_map as_cut (target_premises pcs) ≡ []
  cuts_of_targets [] = refl
  cuts_of_targets (pc ∷ pcs) = still_no_cuts (targets_at pc) (cuts_of_targets pcs)
    where
      still_no_cuts : (o : Option (List ℕ)) → filter_map as_cut (target_premises pcs) ≡ [] → filter_map as_cut (cons_option (option_map (Targets pc) o) (target_premises pcs)) ≡ []
      still_no_cuts None rest = rest
      still_no_cuts (Some to) rest = rest

  dead_of_targets : (pcs : List ℕ) → filter_map as_dead (target_premises pcs) ≡ []
  dead_of_targets [] = refl
  dead_of_targets (pc ∷ pcs) = still_no_dead (targets_at pc) (dead_of_targets pcs)
    where
      still_no_dead : (o : Option (List ℕ)) → filter_map as_dead (target_premises pcs) ≡ [] → filter_map as_dead (cons_option (option_map (Targets pc) o) (target_premises pcs)) ≡ []
      still_no_dead None rest = rest
      still_no_dead (Some to) rest = rest

  same_of_targets : (pcs : List ℕ) → filter_map as_same (target_premises pcs) ≡ []
  same_of_targets [] = refl
  same_of_targets (pc ∷ pcs) = still_no_same (targets_at pc) (same_of_targets pcs)
    where
      still_no_same : (o : Option (List ℕ)) → filter_map as_same (target_premises pcs) ≡ [] → filter_map as_same (cons_option (option_map (Targets pc) o) (target_premises pcs)) ≡ []
      still_no_same None rest = rest
      still_no_same (Some to) rest = rest

  targets_of_targets : (pcs : List ℕ) → filter_map as_targets (target_premises pcs) ≡ pairs targets_at pcs
  targets_of_targets [] = refl
  targets_of_targets (pc ∷ pcs) = if_targeted (targets_at pc) (targets_of_targets pcs)
    where
      if_targeted : (o : Option (List ℕ)) → filter_map as_targets (target_premises pcs) ≡ pairs targets_at pcs
          → filter_map as_targets (cons_option (option_map (Targets pc) o) (target_premises pcs)) ≡ cons_option (option_map (λ to. (pc, to)) o) (pairs targets_at pcs)
      if_targeted None rest = rest
      if_targeted (Some to) rest = ap (λ xs. (pc, to) ∷ xs) rest

  -- what each kind gives of the whole list
  split : {A : Type 0} (pick : Premise → Option A) (a b d e : List A) → filter_map pick (map cut_premise c.cut) ≡ a → filter_map pick (target_premises (analysed rows)) ≡ b
      → filter_map pick (map Dead c.dead) ≡ d → filter_map pick closing ≡ e → filter_map pick (listed c rows (graph word rows c)) ≡ a ++ b ++ d ++ e
  split pick a b d e x y z w =
      let cuts = map cut_premise c.cut in
      let targets = target_premises (analysed rows) in
      let dead = map Dead c.dead in
      filter_map-append pick (cuts ++ targets ++ dead) closing
      ∙ ap (λ xs. xs ++ filter_map pick closing)
      (filter_map-append pick (cuts ++ targets) dead ∙ ap (λ xs. xs ++ filter_map pick dead) (filter_map-append pick cuts targets))
      ∙ (λ i. x i ++ y i ++ z i ++ w i)

  alone : {A : Type 0} (xs : List A) → xs ++ [] ++ [] ≡ xs
  alone xs = append-nil (xs ++ []) ∙ append-nil xs

  -- the whole list, with the values of these plots
  abbrev pub whole : List SlotPlan → List Premise
  whole ps = listed c rows (graph word rows c) ++ values c ps

  but_values : {A : Type 0} (pick : Premise → Option A) → ((pc v : ℕ) → pick (Same pc v) ≡ None) → (ps : List SlotPlan)
      → filter_map pick (whole ps) ≡ filter_map pick (listed c rows (graph word rows c))
  but_values pick h ps =
      let front = listed c rows (graph word rows c) in
      filter_map-append pick front (values c ps) ∙ ap (λ xs. filter_map pick front ++ xs) (none_of_values pick h c ps) ∙ append-nil (filter_map pick front)

  pub cuts_listed : (ps : List SlotPlan) → filter_map as_cut (whole ps) ≡ c.cut
  cuts_listed ps =
      but_values as_cut (λ pc v. refl) ps
      ∙ split as_cut c.cut [] [] [] (cuts_of_cuts c.cut) (cuts_of_targets (analysed rows)) (cuts_of_dead c.dead) refl ∙ append-nil (c.cut ++ [] ++ []) ∙ alone c.cut

  pub targets_listed : (ps : List SlotPlan) → filter_map as_targets (whole ps) ≡ pairs targets_at (analysed rows)
  targets_listed ps =
      but_values as_targets (λ pc v. refl) ps
      ∙ split as_targets [] (pairs targets_at (analysed rows)) [] [] (targets_of_cuts c.cut) (targets_of_targets (analysed rows)) (targets_of_dead c.dead) refl
      ∙ alone (pairs targets_at (analysed rows))

  pub dead_listed : (ps : List SlotPlan) → filter_map as_dead (whole ps) ≡ c.dead
  dead_listed ps =
      but_values as_dead (λ pc v. refl) ps
      ∙ split as_dead [] [] c.dead [] (dead_of_cuts c.cut) (dead_of_targets (analysed rows)) (dead_of_dead c.dead) refl ∙ append-nil c.dead

  -- the values are those of the kept instructions
  pub same_listed : (begun : List ℕ) (t : List Mask) → filter_map as_same (whole (map (plot_at word rows c begun t) (analysed rows))) ≡ pairs (value_of word rows c begun t) (analysed rows)
  same_listed begun t =
      let ps = map (plot_at word rows c begun t) (analysed rows) in
      filter_map-append as_same (listed c rows (graph word rows c)) (values c ps)
      ∙ ap (λ xs. xs ++ filter_map as_same (values c ps))
      (split as_same [] [] [] [] (same_of_cuts c.cut) (same_of_targets (analysed rows)) (same_of_dead c.dead) refl)
      ∙ same_of_values word rows c begun t (analysed rows)

  -- the claims of the whole list, where a task may print at these pcs
  pub claims_are : (ps : List SlotPlan) → ((q : ℕ) → among (analysed rows) q ≡ false → targets_at q ≡ None)
      → claims_in (λ pc. is_some (find (λ w. eqb w pc) c.writes)) (whole ps) ≡ claims word rows c
  claims_are ps only =
      let there : (q : ℕ) → lookup (nat_eq q) (filter_map as_targets (whole ps)) ≡ targets_at q =
      λ q. ap (lookup (nat_eq q)) (targets_listed ps) ∙ look_all targets_at (analysed rows) only q in
      λ i. record {
        cut = λ pc. lookup (nat_eq pc) (cuts_listed ps i);
        targets = fun_ext there i;
        dead = λ pc. among (dead_listed ps i) pc;
        prints = fun_ext (found_among c.writes) i;
      }
