use Rattle.std.proofs.Common.{rules, refl, sym, inl}
use Rattle.outside.proofs.sure.SureStoreStore.read.Goals as goal

pub returns-in_default-clause-answer : goal.returns-in_default-clause-answer
returns-in_default-clause-answer c =
    record {
      never_falls = search rules;
      bounded = search rules;
      bytes = search rules;
      within = search rules;
      absent = λ _. inl (c.args.self.now, refl, sym c.in_default.ensures);
      too_long = search rules;
      failed = search rules;
      named = inl refl;
      ok = search rules;
      memory = search rules;
    }

pub returns-then-bytes-limit-clause-answer : goal.returns-then-bytes-limit-clause-answer
returns-then-bytes-limit-clause-answer c =
    record {
      never_falls = search rules;
      bounded = search rules;
      bytes = search rules;
      within = search rules;
      absent = search rules;
      too_long = λ _. inl (c.args.self.now, c.in-Some.bytes.now, refl, sym c.in-Some.ensures, c.if-bytes-limit.true);
      failed = search rules;
      named = inl refl;
      ok = search rules;
      memory = search rules;
    }
