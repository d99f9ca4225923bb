-- One more value, or none.
use Rattle.std.proofs.Common.{false, sym, ap, ◌∙◌, ◌++◌, [], ◌∷◌, Some, None, append-nil, append_assoc, filter_map, map, take}
use Rattle.std.specs.Option.{option_map}
use Rattle.std.proofs.lemmas.List.{map-append}
use Rattle.dist_image.specs.Image.{premise}
use Rattle.layout_rules.specs.declared.SlotPlan.{SlotPlan}
use Rattle.layout_rules.specs.Images.{same_premise}
use Rattle.fork_layout.proofs.Found.{found_at}
use Rattle.fork_layout.proofs.assuming.assume_values.Goals as goal
use Rattle.fork_layout.proofs.assuming.assume_values.Goals.{in-Some+in_ok-push, in_default}

abbrev no_plot : SlotPlan
no_plot = record { pc = 0; word = 0; live = 0; need = 0; kept = false; is_anchor = false; on = 0 }

pub loop-plot-preserved : goal.loop-plot-preserved
loop-plot-preserved c =
    let find = same_premise c.args.c.now in
    let ps = c.args.plots.now in
    let i = c.loop-plot.plot-index in
    let before = map premise c.args.all.now.items in
    elim c.match-same_at.branch [
      | in-Some+in_ok-push w ↦
          let x = premise w.in-Some.same in
          ap (λ v. map premise v.items) w.all-is
          ∙ ap (map premise) w.in_ok-push.ensures.items
          ∙ map-append premise c.loop-plot.all.items (w.in-Some.same ∷ [])
          ∙ ap (λ qs. qs ++ x ∷ []) c.loop-plot.invariant
          ∙ append_assoc before (filter_map find (take i ps)) (x ∷ [])
          ∙ ap (λ qs. before ++ qs) (sym (found_at find ps i no_plot (Some x) c.loop-plot-test.true (sym c.same_at.ensures ∙ ap (option_map premise) w.in-Some.is)))
      | in_default w ↦
          ap (λ v. map premise v.items) w.all-is
          ∙ c.loop-plot.invariant
          ∙ ap (λ qs. before ++ qs) (sym (append-nil _)
          ∙ sym (found_at find ps i no_plot None c.loop-plot-test.true (sym c.same_at.ensures ∙ ap (option_map premise) w.in_default.is)))
    ]
