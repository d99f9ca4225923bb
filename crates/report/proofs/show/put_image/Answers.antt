-- The two parts of the text, one after the other.
use Rattle.std.proofs.Common.{rules}
use Rattle.report.specs.Show.{places_text, facts_text}
use Rattle.report.proofs.Texts.{stopped, behind}
use Rattle.report.proofs.show.put_image.Goals as goal

pub returns-in_err-put_places : goal.returns-in_err-put_places
returns-in_err-put_places g c =
    let i = c.args.i.now in
    stopped (places_text i) (facts_text i) c.from_residual.result c.in_err-put_places.field-0.0 c.put_places.ensures c.in_err-put_places.was (search rules) (search rules)

pub returns : goal.returns
returns g c =
    let i = c.args.i.now in
    behind (places_text i) (facts_text i) c.put_facts.result c.in_ok-put_places.field-0 c.put_places.ensures c.in_ok-put_places.was (search rules) c.put_facts.ensures
