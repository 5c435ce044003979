use Rattle.explain.proofs.conflict.conflict.Goals as goal

pub returns-then-disjoint : goal.returns-then-disjoint
returns-then-disjoint c = λ byte.
    let may = c.may_race.ensures.0 c.if-may_race.true in
    let apart = c.disjoint.ensures.0 c.if-disjoint.true in (
      λ is. record {
        one_access = may.0;
        other_access = may.1;
        changes = may.2;
        not_both_updates = may.3;
        no_mutex = apart;
        least = (c.common_byte.ensures byte).0 is;
      },
      λ conflict. (c.common_byte.ensures byte).1 conflict.least,
    )
