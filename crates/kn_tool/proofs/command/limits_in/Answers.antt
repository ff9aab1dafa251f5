use Rattle.kn_tool.proofs.Options.{none_of_one, none_of_two, none_of_three, none_of_four}
use Rattle.kn_tool.proofs.command.limits_in.Goals as goal

pub returns-in-len2-clause-none : goal.returns-in-len2-clause-none
returns-in-len2-clause-none c =
    none_of_two c.args.options.now _ _ c.one_limit.result c.in-len2.len_at_least c.in-len2.len_below
    (c.option-item.result, c.option-item.is, c.deref.ensures.value) (c.word-item.result, c.word-item.is, c.deref-in-len2.ensures.value)
    c.one_limit.ensures.none

pub returns-in-len4-clause-none : goal.returns-in-len4-clause-none
returns-in-len4-clause-none c =
    none_of_four c.args.options.now _ _ _ _ c.two_limits.result c.in-len4.len_at_least c.in-len4.len_below
    (c.option-item-then-options-lt5.result, c.option-item-then-options-lt5.is, c.deref-in-len4.ensures.value)
    (c.word-item-then-options-lt5.result, c.word-item-then-options-lt5.is, c.deref-in-len4-2.ensures.value)
    (c.other-item.result, c.other-item.is, c.deref-in-len4-3.ensures.value)
    (c.next-item.result, c.next-item.is, c.deref-in-len4-4.ensures.value)
    c.two_limits.ensures.none

pub returns-in_default-clause-none : goal.returns-in_default-clause-none
returns-in_default-clause-none c = none_of_one c.args.options.now c.in_default.len_at_least c.in_default.len_below

pub returns-in_default-2-clause-none : goal.returns-in_default-2-clause-none
returns-in_default-2-clause-none c = none_of_three c.args.options.now c.in_default.len_at_least c.in_default.len_below
