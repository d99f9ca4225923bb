-- What is written is the profile's bytes, which are read as the profile.
use Rattle.profile_data.proofs.Whole.{is_back}
use Rattle.profile_data.proofs.writing.write_profile.Goals as goal

pub returns-clause-back : goal.returns-clause-back
returns-clause-back c = is_back c.new-out.result.items c.put_header.new.out.items c.put_rows.new.out.items c.args.p.now c.rows.result.now c.rows.ensures.valid c.new-out.ensures.items c.in_ok-put_header.ensures c.rows.ensures.rows c.in_ok-put_rows.ensures
