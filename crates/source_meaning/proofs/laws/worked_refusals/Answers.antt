use Rattle.std.proofs.Common.{refl}
use Rattle.source_meaning.proofs.laws.worked_refusals.Goals as goal

pub returns-clause-names : goal.returns-clause-names
returns-clause-names c = record { row_r5c = refl; row_r5e = refl; row_r9d = refl; row_r10b = refl; row_r10c = refl; row_r10d = refl; row_n1 = refl; row_n2 = refl; row_n3 = refl; row_n6 = refl; row_n7 = refl; row_n8 = refl; row_n9 = refl; row_n10 = refl; row_n11 = refl; row_n13 = refl; row_n14 = refl; row_m1 = refl; row_m2 = refl; row_m3 = refl; row_m4 = refl; row_m5 = refl; row_m6 = refl; row_m7 = refl; row_s1 = refl; row_s2 = refl; row_s3 = refl; row_s4 = refl }

pub returns-clause-values : goal.returns-clause-values
returns-clause-values c = record { row_r5b = refl; row_r5d = refl; row_t1 = refl; row_t3 = refl; row_t4 = refl; row_t5 = refl; row_t6 = refl; row_t7 = refl; row_t8 = refl; row_t9 = refl; row_t10 = refl; row_t11 = refl; row_t12 = refl; row_t13 = refl; row_t14 = refl; row_t15 = refl; row_t16 = refl; row_t17 = refl; row_t18 = refl; row_t19 = refl; row_t20 = refl; row_t21 = refl; row_s5 = refl; row_s6 = refl; row_s8 = refl; row_s9 = refl; row_s10 = refl; row_s11 = refl; row_s12 = refl; row_s13 = refl; row_s15 = refl; row_s16 = refl; row_s17 = refl; row_s18 = refl; row_s19 = refl; row_s20 = refl; row_s21 = refl; row_s22 = refl; row_o1 = refl; row_o2 = refl; row_o4 = refl; row_o5 = refl; row_o6 = refl; row_o8 = refl }
