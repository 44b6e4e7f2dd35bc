-- The tests are those of `character_of`.
use Rattle.lent.proofs.Tests.{tests}
use Rattle.c40.specs.Values.{character_of}
use Rattle.c40.proofs.pair.character_of.Goals as goal

pub overflow_sub-result : goal.overflow_sub-result
unfolding character_of
overflow_sub-result c = search tests

pub overflow_cast-result : goal.overflow_cast-result
unfolding character_of
overflow_cast-result c = search tests

pub overflow_add-result : goal.overflow_add-result
unfolding character_of
overflow_add-result c = search tests

pub overflow_sub-result-else-v-le13 : goal.overflow_sub-result-else-v-le13
unfolding character_of
overflow_sub-result-else-v-le13 c = search tests

pub overflow_cast-result-else-v-le13 : goal.overflow_cast-result-else-v-le13
unfolding character_of
overflow_cast-result-else-v-le13 c = search tests

pub overflow_add-result-else-v-le13 : goal.overflow_add-result-else-v-le13
unfolding character_of
overflow_add-result-else-v-le13 c = search tests

pub returns-then-v-le3 : goal.returns-then-v-le3
unfolding character_of
returns-then-v-le3 c = search tests

pub returns-then-v-le13 : goal.returns-then-v-le13
unfolding character_of
returns-then-v-le13 c = search tests

pub returns-else-v-le13 : goal.returns-else-v-le13
unfolding character_of
returns-else-v-le13 c = search tests
